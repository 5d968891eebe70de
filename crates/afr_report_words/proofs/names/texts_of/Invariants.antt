use Rattle.std.proofs.Common.{◌≡◌, map, take}
use Rattle.afr_model.specs.ReportReplies.{name_texts}
use Rattle.afr_report_words.proofs.names.texts_of.Given as goal

abbrev pub invariant-loop-name : goal.invariant-loop-name
invariant-loop-name l = map (λ text. text.now) l.texts.items ≡ name_texts l.words (take l.name-index l.names)
