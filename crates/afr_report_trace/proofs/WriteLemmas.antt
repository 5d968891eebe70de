-- What was written in parts, and where writing stopped.
use Rattle.std.proofs.Common.{◌≡◌, ◌∙◌, ℕ, zero, suc, ◌+◌, ◌-◌, ◌<◌, ◌≤◌, List, [], ◌∷◌, ◌++◌, Option, Some, None, refl, sym, ap, arith, add-one, add-suc, add-zero, append_assoc, append-nil, length, length-append, take}
use Rattle.std.proofs.lemmas.List.{take-append-le}
use Rattle.std.specs.Io.KnownBytes.{Appends}
use Rattle.afr_text.specs.Parts.{AppendsFront}
use Rattle.afr_text.proofs.Parts.{appends_more}
use Rattle.afr_report_trace.specs.Texts.{row_text, text_to}
use Rattle.afr_report_trace.specs.Written.{HandsOn}

-- what the sink took since the start, before what the buffer holds
pub record Handed (old now : Option (List ℕ)) (held done : List ℕ) : Type 0 where
  pub taken : List ℕ
  pub appends : Appends old now taken
  pub whole : taken ++ held ≡ done

none_taken : (a : Option (List ℕ)) → Appends a a []
none_taken None = tt
none_taken (Some u) = sym (append-nil u)

pub begun : (a : Option (List ℕ)) → Handed a a [] []
begun a = record { taken = []; appends = none_taken a; whole = refl }

-- a row more, of which some was handed on
pub handed_more : (a b c : Option (List ℕ)) (held more left done : List ℕ) → Handed a b held done → HandsOn b c (held ++ more) left → Handed a c left (done ++ more)
handed_more a b c held more left done h k = record {
  taken = h.taken ++ k.taken;
  appends = appends_more a b c h.taken k.taken _ refl h.appends k.appends;
  whole = append_assoc h.taken k.taken left ∙ ap (λ (t : List ℕ). h.taken ++ t) k.whole ∙ sym (append_assoc h.taken held more) ∙ ap (λ (t : List ℕ). t ++ more) h.whole;
}

take_more : (xs ys : List ℕ) (n m : ℕ) → m ≡ length xs + n → take m (xs ++ ys) ≡ xs ++ take n ys
take_more [] ys n m e =
    let same : m ≡ n = omega (arith, e) in
    ap (λ (k : ℕ). take k ys) same
take_more (x ∷ xs) ys n zero e = absurd (omega (arith, e))
take_more (x ∷ xs) ys n (suc m) e = ap (λ (t : List ℕ). x ∷ t) (take_more xs ys n m (omega (arith, e)))

-- a front of what was held was handed on, and so was a front of the whole
front : (a b c : Option (List ℕ)) (taken held rest all : List ℕ) → taken ++ (held ++ rest) ≡ all → Appends a b taken → AppendsFront b c held → AppendsFront a c all
front a b c taken held rest all e h k =
    let part : taken ++ take k.0 held ≡ take (length taken + k.0) all =
    ap (λ (t : List ℕ). taken ++ t) (sym (take-append-le k.0 held rest k.1)) ∙ sym (take_more taken (held ++ rest) k.0 (length taken + k.0) refl) ∙ ap (take (length taken + k.0)) e in
    let short : length taken + k.0 ≤ length all = rw (← e) (omega (arith, k.1, length-append taken (held ++ rest), length-append held rest)) in
    (length taken + k.0, short, appends_more a b c taken (take k.0 held) (take (length taken + k.0) all) part h k.2)

pub handed_front : (a b c : Option (List ℕ)) (held done : List ℕ) → Handed a b held done → AppendsFront b c held → AppendsFront a c done
handed_front a b c held done h k = front a b c h.taken held [] done (ap (λ (t : List ℕ). h.taken ++ t) (append-nil held) ∙ h.whole) h.appends k

-- the text of rows begins with that of the first of them
pub begins : (texts : List (List ℕ)) (askers rests : List ℕ) (n more : ℕ) → (rest : List ℕ) × (text_to texts askers rests (n + more) ≡ text_to texts askers rests n ++ rest)
begins texts askers rests n zero = ([], rw add-zero (sym (append-nil (text_to texts askers rests n))))
begins texts askers rests n (suc more) =
    let before = begins texts askers rests n more in (
      before.0 ++ row_text texts askers rests (n + more),
      rw add-suc (ap (λ (t : List ℕ). t ++ row_text texts askers rests (n + more)) before.1 ∙ append_assoc (text_to texts askers rests n) before.0 (row_text texts askers rests (n + more))),
    )

-- ---- a row more
module _ (texts : List (List ℕ)) (askers rests : List ℕ) (n : ℕ) (a b c : Option (List ℕ)) (held row full : List ℕ) (e : full ≡ held ++ row) (r : row ≡ row_text texts askers rests n) (h : Handed a b held (text_to texts askers rests n)) where
  pub next_handed : (left : List ℕ) → HandsOn b c full left → Handed a c left (text_to texts askers rests (n + 1))
  next_handed left k = rw (add-one, ← r) (handed_more a b c held row left (text_to texts askers rests n) h (rw e at k))

  pub stopped : n < length rests → AppendsFront b c full → AppendsFront a c (text_to texts askers rests (length rests))
  stopped small k =
      let before = begins texts askers rests (suc n) (length rests - suc n) in
      let count : suc n + (length rests - suc n) ≡ length rests = omega (arith, small) in
      let whole : h.taken ++ ((held ++ row) ++ before.0) ≡ text_to texts askers rests (length rests) =
      sym (append_assoc h.taken (held ++ row) before.0)
      ∙ ap (λ (t : List ℕ). t ++ before.0) (sym (append_assoc h.taken held row) ∙ ap (λ (t : List ℕ). t ++ row) h.whole ∙ ap (λ (t : List ℕ). text_to texts askers rests n ++ t) r)
      ∙ sym before.1
      ∙ ap (text_to texts askers rests) count in
      front a b c h.taken full before.0 _ (rw e whole) h.appends k
