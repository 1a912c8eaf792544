-- A slot may be shared with another thread where its value may go there and be shared with it.
use denote.RattleType.{RattleType}
use denote.Param.Send.{IsSend, IsSync}
use Rattle.counted_slot.specs.declared.Fits.{Ghosts}
use Rattle.counted_slot.proofs.Counted.TheSendSync.{the_sync}
use Rattle.lru_slot.specs.contracts.Counted.{the_row}

pub sync : (T G : RattleType) (g : Ghosts T.Denot G.Denot)
    → IsSend T → IsSync T → IsSync (the_row T G g)
sync T G g s y = record { shared = (the_sync T G g s y).shared }
