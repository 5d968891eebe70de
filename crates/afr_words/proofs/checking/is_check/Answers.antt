-- One word asks for a check exactly where it is `check`.
use Rattle.std.proofs.Common.{ap, codes, string_bytes, ◌∷◌, []}
use Rattle.std.proofs.lemmas.Slice.Eq.{bytes_eq-Decides}
use Rattle.afr_words.proofs.OneWordLemmas.{one_word, only_text}
use Rattle.afr_words.proofs.checking.is_check.Goals as goal

pub returns-in-len1 : goal.returns-in-len1
returns-in-len1 c =
    let one = one_word c.args.words.now c.word-item.result c.in-len1.len_at_least c.in-len1.len_below c.word-item.is in
    let told = bytes_eq-Decides (string_bytes c.word-item.result) (codes "check") in (
      λ yes. rw one (ap (λ text. text ∷ []) (told.0 (rw (← c.as_str.ensures.value, ← c.eq.ensures) yes))),
      λ check. rw (c.eq.ensures, c.as_str.ensures.value) (told.1 (only_text (string_bytes c.word-item.result) (codes "check") (rw one at check))),
    )
