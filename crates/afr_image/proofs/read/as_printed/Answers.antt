-- The text is that of the plan that it spells, or of none, since it spells no other.
use Rattle.std.proofs.Common.{◌≡◌, true, sym, ◌∙◌}
use Rattle.afr_image.specs.Frame.{refusal}
use Rattle.afr_image.proofs.ReadLemmas.{other_text}
use Rattle.afr_image.proofs.read.as_printed.Goals as goal

pub returns-then-are_same-clause-read : goal.returns-then-are_same-clause-read
returns-then-are_same-clause-read c = record { spelled = c.requires; printed = sym c.in-Ok.ensures.ok ∙ sym c.as_bytes.ensures.value ∙ c.are_same.ensures.0 c.if-are_same.true }

pub returns-clause-refused : goal.returns-clause-refused
returns-clause-refused c = λ fault e.
    let same : refusal 12 13 ≡ fault = cc e in
    (other_text c.one_plan_for_a_text.ensures.same c.args.text.now c.args.plan c.requires (λ p. let yes : c.are_same.result ≡ true = c.are_same.ensures.1 (c.as_bytes.ensures.value ∙ c.in-Ok.ensures.ok ∙ p) in cc (sym yes ∙ c.if-are_same.false)), sym same)
