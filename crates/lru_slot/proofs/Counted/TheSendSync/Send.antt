-- A slot may go to another thread where its value may.
use denote.RattleType.{RattleType}
use denote.Param.Send.{IsSend}
use Rattle.counted_slot.specs.declared.Fits.{Ghosts}
use Rattle.counted_slot.proofs.Counted.TheSendSync.{the_send}
use Rattle.lru_slot.specs.contracts.Counted.{the_row}

pub send : (T G : RattleType) (g : Ghosts T.Denot G.Denot) → IsSend T → IsSend (the_row T G g)
send T G g s =
    let kit = the_send T G g s in record { owned = kit.owned; leaving = kit.leaving }
