use Rattle.std.proofs.Common.{◌≡◌, ◌++◌, ◌∙◌, ap, append_assoc, arith, List, ℕ, take, drop}
use Rattle.std.specs.Prelude.{string_bytes}
use Rattle.std.proofs.lemmas.List.{length-take, take_rest}
use Rattle.afr_model.specs.ReportReplies.{hex_text}
use Rattle.afr_report_words.proofs.NumberLemmas.{hex_parts}
use Rattle.afr_report_words.proofs.numbers.push_hex.Goals as goal

pub slice_bounds-push_few_hex-end : goal.slice_bounds-push_few_hex-end
slice_bounds-push_few_hex-end c = omega (arith, length-take {A = ℕ})

pub push_few_hex-requires : goal.push_few_hex-requires
push_few_hex-requires c = omega (arith, length-take {A = ℕ})

pub loop-rest-preserved : goal.loop-rest-preserved
loop-rest-preserved c =
    let rest : List ℕ = c.loop-rest.rest.now in
    let out : List ℕ = string_bytes c.loop-rest.out in
    let same : (out ++ hex_text (take 64 rest)) ++ hex_text (drop 64 rest) ≡ string_bytes c.args.out.now ++ hex_text c.args.bytes.now =
    append_assoc out (hex_text (take 64 rest)) (hex_text (drop 64 rest)) ∙ ap (λ (t : List ℕ). out ++ t) (hex_parts rest 64) ∙ c.loop-rest.invariant in
    rw (take_rest, c.in_ok-push_few_hex.ensures.ok) same
