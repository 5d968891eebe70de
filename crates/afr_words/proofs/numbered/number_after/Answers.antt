-- Two words have the number that the second spells exactly where the first is the name.
use Rattle.std.proofs.Common.{◌≡◌, [], ◌∷◌, decimal, string_bytes, sym, ◌∙◌}
use Rattle.std.proofs.lemmas.Slice.Eq.{bytes_eq-Decides}
use Rattle.afr_words.proofs.FormLemmas.{untold}
use Rattle.afr_words.proofs.NumberLemmas.{spelled_is_numbered, two_words}
use Rattle.afr_words.proofs.numbered.number_after.Goals as goal

pub returns-in-len2-clause-some : goal.returns-in-len2-clause-some
returns-in-len2-clause-some c =
    let two = two_words c.args.words.now c.first-item.result c.number-item.result c.in-len2.len_at_least c.in-len2.len_below c.first-item.is c.number-item.is in
    let named : string_bytes c.first-item.result ≡ c.args.name.now = (bytes_eq-Decides (string_bytes c.first-item.result) c.args.name.now).0 (rw (← c.as_str.ensures.value, ← c.eq.ensures) c.if-eq.true) in
    spelled_is_numbered c.args.words.now c.first-item.result c.number-item.result c.args.name.now c.args.most c.number_spelled.result two named (rw c.as_str-in-len2.ensures.value at c.number_spelled.ensures.some)

pub returns-in_default-2-clause-none : goal.returns-in_default-2-clause-none
returns-in_default-2-clause-none c = λ e n are.
    let two = two_words c.args.words.now c.first-item.result c.number-item.result c.in-len2.len_at_least c.in-len2.len_below c.first-item.is c.number-item.is in
    let same : string_bytes c.first-item.result ∷ string_bytes c.number-item.result ∷ [] ≡ c.args.name.now ∷ decimal n ∷ [] = sym two ∙ are.0 in
    let named : string_bytes c.first-item.result ≡ c.args.name.now = cc in
    untold _ (λ is. rw (c.eq.ensures, c.as_str.ensures.value) ((bytes_eq-Decides (string_bytes c.first-item.result) c.args.name.now).1 is)) c.if-eq.false named
