use Rattle.std.proofs.Common.{◌≡◌, ◌++◌, ◌*◌, ◌/◌, length, take, drop}
use Rattle.afr_plan.specs.Data.{hex_bytes}
use Rattle.afr_plan_read.proofs.data_bytes.decode.Given as goal

abbrev pub invariant-loop-i : goal.invariant-loop-i
invariant-loop-i l = (length l.bytes ≡ length l.digits / 2) × (take l.i l.bytes ++ hex_bytes (drop (2 * l.i) l.digits) ≡ hex_bytes l.digits)
