use Rattle.std.proofs.Common.{ap, ◌∙◌, arith, ◌<◌, ◌^◌, ◌+◌, ◌≡◌, List, ℕ}
use Rattle.afr_plan.specs.Names.{with_name, file_name}
use Rattle.afr_plan_read.proofs.NamesLemmas.{next_file}
use Rattle.afr_plan_read.proofs.names.NameTable.of_files.Goals as goal

pub loop-i-preserved : goal.loop-i-preserved
loop-i-preserved c =
    let small : c.loop-i.i + 1 < 2 ^ 64 = omega (arith, c.ranges.files.fits, c.loop-i-test.true) in
    let bytes : c.into_bytes.result.items ≡ file_name (c.loop-i.i + 1) = ap (λ v. v.items) c.into_bytes.ensures.value ∙ c.in_ok-name.ensures.ok in
    c.in_ok-add.ensures.value ∙ ap (λ (t : List ℕ). with_name c.loop-i.names t) bytes ∙ rw c.loop-i.invariant (next_file c.loop-i.i (c.loop-i.i + 1) (omega arith) small)
