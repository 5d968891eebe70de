-- What is shown is what there is, and zeros behind it.
use Rattle.std.proofs.Common.{rules, ◌≡◌, ℕ, ◌+◌, ◌-◌, ◌<◌, min, length, take, drop, arith}
use Rattle.std.proofs.lemmas.List.{length-append, length-drop, length-take}
use Rattle.afr_content.proofs.Shown.{shown}
use Rattle.afr_content.proofs.bytes.show.Goals as goal

pub returns-clause-bytes : goal.returns-clause-bytes
returns-clause-bytes c =
    let some : c.args.at < length c.args.bytes.now = omega arith in
    let count : c.min-count.result ≡ min (length c.args.into.now) (length c.args.bytes.now - c.args.at) = omega arith in
    let copied : c.copy_from_slice.new.self ≡ take (c.args.at + c.min-count.result - c.args.at) (drop c.args.at c.args.bytes.now) = c.copy_from_slice.ensures.after in
    let size : length c.fill-2.new.self ≡ length c.args.into.now - c.min-count.result =
    omega (arith, length-append {A = ℕ}, length-take {A = ℕ}, length-drop {A = ℕ}, c.fill-2.ensures.len, c.copy_from_slice.ensures.len) in
    let zeros = c.fill-2.ensures.after (search rules) in
    shown c.args.at c.min-count.result _ c.args.bytes.now c.args.into.now c.copy_from_slice.new.self c.fill-2.new.self _ some count copied size zeros
