use Rattle.std.proofs.Common.{arith}
use Rattle.hex.proofs.HexLemmas.{length-encode_with}
use Rattle.hex.specs.Hex.{lower_digits}
use Rattle.afr_marks.proofs.text.value_text.Goals as goal

pub returns-clause-len : goal.returns-clause-len
returns-clause-len c = rw (c.in_ok-push_str.ensures.bytes, c.in_ok-text.ensures.ok, c.deref.ensures, c.in_ok-digits.ensures) (omega (arith, length-encode_with lower_digits c.args.bytes.now, c.told-bytes))
