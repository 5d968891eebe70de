-- One word asks for a run by threads exactly where it is the word of one.
use Rattle.std.proofs.Common.{ap, string_bytes, ◌∷◌, []}
use Rattle.afr_words.specs.Forms.{live_word}
use Rattle.afr_words.proofs.OneWordLemmas.{one_word, only_text}
use Rattle.afr_words.proofs.live.live_form_of.Goals as goal

pub returns-in-len1-clause-some : goal.returns-in-len1-clause-some
returns-in-len1-clause-some c = λ form e.
    let one = one_word c.args.words.now c.word-item.result c.in-len1.len_at_least c.in-len1.len_below c.word-item.is in
    rw (one, ← c.as_str.ensures.value) (ap (λ text. text ∷ []) (c.live_form_named.ensures.some form e))

pub returns-in-len1-clause-none : goal.returns-in-len1-clause-none
returns-in-len1-clause-none c = λ e live.
    let one = one_word c.args.words.now c.word-item.result c.in-len1.len_at_least c.in-len1.len_below c.word-item.is in
    c.live_form_named.ensures.none e live.0 (rw c.as_str.ensures.value (only_text (string_bytes c.word-item.result) (live_word live.0) (rw one at live.1)))
