use Rattle.std.proofs.Common.{◌≡◌, ℕ, ◌+◌, ◌-◌, ◌∙◌, List, length, drop, drop-drop, take, take_while, true, sym, arith, length-drop}
use Rattle.std.specs.List.{list_all}
use Rattle.std.proofs.lemmas.List.{take_rest}
use Rattle.afr_plan.specs.Bytes.{path_byte}
use Rattle.afr_plan_line.proofs.RunLemmas.{run_on}
use Rattle.afr_plan_line.proofs.bytes.path_len.Goals as goal

pub loop-count-preserved : goal.loop-count-preserved
loop-count-preserved c =
    let n : ℕ = c.loop-count.count in
    let bytes : List ℕ = c.args.bytes.now in
    let step : n + 16 - n ≡ 16 = omega arith in
    let pass : list_all path_byte (take 16 (drop n bytes)) ≡ true = rw step at (sym c.are_path_bytes.ensures ∙ c.if-are_path_bytes.true) in
    let on : length (take_while path_byte (drop n bytes)) ≡ 16 + length (take_while path_byte (drop (n + 16) bytes)) = rw (← drop-drop 16 n bytes) (run_on path_byte (drop n bytes) 16 (simp length-drop (omega arith)) pass) in
    record { within = omega arith; run = omega (arith, on) }

pub returns : goal.returns
returns c = rw (rw take_rest at c.path_run.ensures) (sym c.loop-count.invariant.run)
