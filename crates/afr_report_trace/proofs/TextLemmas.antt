-- A table of texts: what lies between two cuts, and one text more.
use Rattle.std.proofs.Common.{◌≡◌, ◌∙◌, ℕ, zero, suc, ◌+◌, ◌-◌, ◌<◌, ◌≤◌, List, [], ◌∷◌, ◌++◌, refl, sym, ap, arith, add-one, length, length-append, length-drop, get_or, take, drop}
use Rattle.std.proofs.lemmas.List.{drop-append-le, drop_all, get_or_append_left, take-append-le, take_all}
use Rattle.afr_report_trace.specs.Texts.{AreCuts, Grows, IsText, Rises, texts_from, texts_in}

-- ---- cuts
within : (at : ℕ) (cuts : List ℕ) (end : ℕ) → Rises at cuts end → at ≤ end
within at [] end rises = omega (arith, rises)
within at (next ∷ cuts) end rises = omega (arith, rises.0, within next cuts end rises.1)

many_from : (bytes : List ℕ) (at : ℕ) (cuts : List ℕ) → length (texts_from bytes at cuts) ≡ length cuts
many_from bytes at [] = refl
many_from bytes at (next ∷ cuts) = ap suc (many_from bytes next cuts)

pub many : (bytes cuts : List ℕ) → AreCuts cuts (length bytes) → length (texts_in bytes cuts) + 1 ≡ length cuts
many bytes [] are = absurd are
many bytes (at ∷ cuts) are = omega (arith, many_from bytes at cuts)

-- where the text with a number lies
pub record IsPiece (bytes cuts : List ℕ) (number : ℕ) (text : List ℕ) : Type 0 where
  pub next : number + 1 < length cuts
  pub from : get_or cuts number 0 ≤ get_or cuts (number + 1) 0
  pub to : get_or cuts (number + 1) 0 ≤ length bytes
  pub is : take (get_or cuts (number + 1) 0 - get_or cuts number 0) (drop (get_or cuts number 0) bytes) ≡ text

piece_from : (bytes : List ℕ) (at : ℕ) (cuts : List ℕ) → Rises at cuts (length bytes) → (number : ℕ) → number < length cuts
    → (get_or (at ∷ cuts) number 0 ≤ get_or cuts number 0) × (get_or cuts number 0 ≤ length bytes)
    × (get_or (texts_from bytes at cuts) number [] ≡ take (get_or cuts number 0 - get_or (at ∷ cuts) number 0) (drop (get_or (at ∷ cuts) number 0) bytes))
piece_from bytes at [] rises number small = absurd (omega (arith, small))
piece_from bytes at (next ∷ cuts) rises zero small = (rises.0, within next cuts (length bytes) rises.1, refl)
piece_from bytes at (next ∷ cuts) rises (suc number) small = piece_from bytes next cuts rises.1 number (omega (arith, small))

pub piece : (bytes cuts : List ℕ) (texts : List (List ℕ)) (number : ℕ) → AreCuts cuts (length bytes) → texts_in bytes cuts ≡ texts → number < length texts → IsPiece bytes cuts number (get_or texts number [])
piece bytes [] texts number are is small = absurd are
piece bytes (at ∷ cuts) texts number are is small =
    let few : number < length cuts = omega (arith, small, many_from bytes at cuts, ap length is) in
    let p = piece_from bytes at cuts are number few in
    record {
      next = omega (arith, few);
      from = rw add-one p.0;
      to = rw add-one p.1;
      is = rw add-one (sym p.2 ∙ ap (λ (t : List (List ℕ)). get_or t number []) is);
    }

rises_more : (at : ℕ) (cuts : List ℕ) (end next : ℕ) → Rises at cuts end → end ≤ next → Rises at (cuts ++ next ∷ []) next
rises_more at [] end next rises more = (omega (arith, rises, more), refl)
rises_more at (first ∷ cuts) end next rises more = (rises.0, rises_more first cuts end next rises.1 more)

cuts_more : (cuts : List ℕ) (end next : ℕ) → AreCuts cuts end → end ≤ next → AreCuts (cuts ++ next ∷ []) next
cuts_more [] end next are more = absurd are
cuts_more (at ∷ cuts) end next are more = rises_more at cuts end next are more

last_text : (bytes text : List ℕ) (at : ℕ) → at ≡ length bytes → take (length (bytes ++ text) - at) (drop at (bytes ++ text)) ≡ text
last_text bytes text at e =
    let all : drop at (bytes ++ text) ≡ text = rw e (drop-append-le (length bytes) bytes text (omega arith) ∙ ap (λ (none : List ℕ). none ++ text) (drop_all (length bytes) bytes (omega arith))) in
    rw all (take_all _ text (omega (arith, length-append bytes text, e)))

from_more : (bytes text : List ℕ) (at : ℕ) (cuts : List ℕ) → Rises at cuts (length bytes) → texts_from (bytes ++ text) at (cuts ++ length (bytes ++ text) ∷ []) ≡ texts_from bytes at cuts ++ text ∷ []
from_more bytes text at [] rises = ap (λ (t : List ℕ). t ∷ []) (last_text bytes text at rises)
from_more bytes text at (next ∷ cuts) rises =
    let small : next ≤ length bytes = within next cuts (length bytes) rises.1 in
    let short : next - at ≤ length (drop at bytes) = omega (arith, length-drop at bytes, small) in
    let same : take (next - at) (drop at (bytes ++ text)) ≡ take (next - at) (drop at bytes) =
    ap (take (next - at)) (drop-append-le at bytes text (omega (arith, rises.0, small))) ∙ take-append-le (next - at) (drop at bytes) text short in
    λ i. same i ∷ from_more bytes text next cuts rises.1 i

texts_more : (bytes text cuts : List ℕ) → AreCuts cuts (length bytes) → texts_in (bytes ++ text) (cuts ++ length (bytes ++ text) ∷ []) ≡ texts_in bytes cuts ++ text ∷ []
texts_more bytes text [] are = absurd are
texts_more bytes text (at ∷ cuts) are = from_more bytes text at cuts are

-- one text more
pub pushed : (bytes cuts text bytes' cuts' : List ℕ) (end : ℕ) → AreCuts cuts (length bytes) → bytes' ≡ bytes ++ text → cuts' ≡ cuts ++ end ∷ [] → end ≡ length bytes'
    → AreCuts cuts' (length bytes') × (texts_in bytes' cuts' ≡ texts_in bytes cuts ++ text ∷ [])
pushed bytes cuts text bytes' cuts' end are b c e =
    let last : end ≡ length (bytes ++ text) = e ∙ ap length b in
    rw (c, b, last) (cuts_more cuts (length bytes) (length (bytes ++ text)) are (omega (arith, length-append bytes text)), texts_more bytes text cuts are)

pub stays : {old new : List (List ℕ)} {number : ℕ} {text : List ℕ} → Grows old new → IsText old number text → IsText new number text
stays {old} {new} {number} g t = record {
  within = rw g.is (omega (arith, length-append old g.more, t.within));
  is = rw g.is (get_or_append_left old g.more [] number t.within ∙ t.is);
}
