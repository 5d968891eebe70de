use Rattle.std.proofs.Common.{◌≡◌, Err, ap, sym}
use Rattle.afr_image.specs.Frame.{refusal}
use Rattle.afr_image.proofs.ReadLemmas.{no_text}
use Rattle.afr_image.proofs.read.plan_in.Goals as goal

pub returns-in-Err-Refused-clause-refused : goal.returns-in-Err-Refused-clause-refused
returns-in-Err-Refused-clause-refused c = λ fault e.
    let same : refusal 12 13 ≡ fault = cc e in
    (no_text c.args.text.now (c.in-Err-Refused.ensures.refused _ (ap Err c.in-Err-Refused.field-0-is)).1, sym same)
