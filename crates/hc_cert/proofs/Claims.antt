-- What the proofs above cite of claims, passed on. Declares nothing.
pub use Rattle.hc_claim.proofs.Breaking.{by_finish}
pub use Rattle.hc_claim.proofs.Covering.{HasGood, IsGood, asked_same, begins_so, good_holds, ground, sites_same, site}
