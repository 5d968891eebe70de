use Rattle.afr_heal_merge.proofs.Order.{rising_merged}
use Rattle.afr_heal_merge.proofs.Stands.{greatest_stands, nothing_added}
use Rattle.afr_heal_merge.proofs.laws.a_merge_keeps_the_greatest.Goals as goal

pub returns : goal.returns
returns c = record { order = λ lists. rising_merged lists; greatest = λ lists x s. greatest_stands lists x s; added = λ lists x h. nothing_added lists x h }
