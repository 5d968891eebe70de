use Rattle.std.specs.Prelude.{List, ℕ, ◌++◌, codes, string_bytes}
use Rattle.std.proofs.Common.{ap, arith, sym, ◌∙◌}
use Rattle.std.proofs.lemmas.Fmt.{decimal_digit}
use Rattle.afr_report_trace.proofs.objects.push_start.Goals as goal

pub returns-then-from-eq0 : goal.returns-then-from-eq0
returns-then-from-eq0 c = record { ok = rw c.if-from-eq0.true (c.in_ok-push_str.ensures.bytes ∙ ap (λ (digits : List ℕ). string_bytes c.args.out.now ++ (codes "[" ++ digits ++ codes ",")) (sym (decimal_digit 0 (omega arith)))) }
