use denote.Exit.{no}
use denote.Param.Send.{param_send, arg_send}
use Rattle.lru_tests.proofs.Sent.{closure_send}
use Rattle.lru_tests.proofs.journal.threads.use_on_two_threads.Goals as goal

-- The first closure goes to the other thread.
pub join-requires-send-F : goal.join-requires-send-F
join-requires-send-F g c κs within = param_send 1 _ (arg_send _ no _ (closure_send _ _ _ _ _ _ c.type_bounds.sync-R c.type_bounds.send-I))
