-- The step of advice_evict where the key is absent.
use Rattle.std.proofs.Common.{Bool, refl, inl}
use Rattle.concurrent_lru.specs.Cache.{Cache}
use Rattle.concurrent_lru.specs.Steps.{IsAbsent, IsNotIdle}

module _ {K V : Type 0} where
  -- what is absent is not idle
  pub absent_not_idle : (E : K → K → Bool) (c : Cache K V) (k : K) → IsAbsent E c k → IsNotIdle E c k
  absent_not_idle E c k absent s x at = absent s x.key x.charge (inl (x, at, refl, refl))
