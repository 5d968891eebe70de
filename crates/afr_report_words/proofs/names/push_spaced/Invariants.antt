use Rattle.std.proofs.Common.{◌≡◌, ◌++◌, map, take}
use Rattle.std.specs.Prelude.{codes, flat_map, string_bytes}
use Rattle.afr_report_words.proofs.names.push_spaced.Given as goal

abbrev pub invariant-loop-text : goal.invariant-loop-text
invariant-loop-text l = string_bytes l.out ≡ string_bytes l.fn.out ++ flat_map (λ text. codes " " ++ text) (map (λ text. text.now) (take l.text-index l.texts))
