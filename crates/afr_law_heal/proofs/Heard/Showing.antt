-- What a read line showed, a longer log shows still; and the five places of the reads and of the names.
use Rattle.std.proofs.Common.{◌≡◌, ℕ, zero, suc, ◌<◌, ◌==◌, arith, true, false, List, [], ◌∷◌, Option, None, Some, length, refl, sym, ap, ◌∙◌, subst, take, drop}
use Rattle.std.proofs.lemmas.Bool.Decides.{nat_tests}
use Rattle.std.specs.Prelude.{slice_index_or, slice_set}
use Rattle.afr_base.specs.declared.ids.Kind.{Kind}
use Rattle.afr_base.specs.declared.ids.Kind.TheVariants as kind_of
use Rattle.afr_base.specs.declared.ids.NameId.{NameId}
use Rattle.afr_base.proofs.TestLemmas.{same_number}
use Rattle.afr_heal_merge.specs.Merging.{present}
use Rattle.afr_law_heal.specs.Heard.Holds.{AreShown, HoldsReads}
use Rattle.afr_lines.specs.Log.{from_oldest}
use Rattle.afr_lines.specs.declared.line.Line.{Line}
use Rattle.afr_lines.specs.declared.line.Line.TheVariants.{Ask}
use Rattle.afr_lines.specs.declared.request.Request.TheVariants as request_of
use Rattle.afr_model.specs.Tables.{Past, all_names_shown, attrs_in, attrs_shown, bytes_shown, content_in, held_before, holds, names_in, names_shown}
use Rattle.afr_object.specs.Tables.{Table, copy_at}
use Rattle.afr_object.specs.declared.entry.Entry.{Entry}
use Rattle.afr_plan.specs.declared.plan.Plan.{Plan}
use Rattle.afr_heal_machine.specs.declared.contents.ReadSoFar.{ReadSoFar}
use Rattle.afr_heal_machine.specs.declared.contents.ReadSoFar.TheVariants.{Nothing, Bytes, Attrs, Names}

-- ---- what a line showed, by other tables of that moment
bytes_by : (past older : Past) (k : ℕ) → ((b : ℕ) → past k b ≡ older k b) → (line : Option Line) → bytes_shown past k line ≡ bytes_shown older k line
bytes_by past older k same (Some (Ask a b (request_of.ReadBytes g at len) told took)) = ap (λ (t : Table). take len (drop at (content_in (copy_at g t)))) (same b.0)
bytes_by past older k same (Some (Ask a b request told took)) = refl
bytes_by past older k same (Some line) = refl
bytes_by past older k same None = refl

attrs_by : (past older : Past) (k : ℕ) → ((b : ℕ) → past k b ≡ older k b) → (line : Option Line) → attrs_shown past k line ≡ attrs_shown older k line
attrs_by past older k same (Some (Ask a b (request_of.ReadAttrs g) told took)) = ap (λ (t : Table). attrs_in (copy_at g t)) (same b.0)
attrs_by past older k same (Some (Ask a b request told took)) = refl
attrs_by past older k same (Some line) = refl
attrs_by past older k same None = refl

names_by : (past older : Past) (k : ℕ) → ((b : ℕ) → past k b ≡ older k b) → (line : Option Line) → names_shown past k line ≡ names_shown older k line
names_by past older k same (Some (Ask a b (request_of.List g) told took)) = ap (λ (t : Table). names_in (copy_at g t)) (same b.0)
names_by past older k same (Some (Ask a b request told took)) = refl
names_by past older k same (Some line) = refl
names_by past older k same None = refl

-- ---- one line more
module _ (p : Plan) (line : Line) (log : List Line) where
  -- older lines stand where they stood
  line_then : (k : ℕ) → k < length log → from_oldest k (line ∷ log) ≡ from_oldest k log
  line_then k low = (let e : (k == length log) ≡ false = grind (arith, nat_tests, low) in rw e refl)

  held_then : (k : ℕ) → k < length log → (b : ℕ) → held_before p (line ∷ log) k b ≡ held_before p log k b
  held_then k low b = (let e : (k == length log) ≡ false = grind (arith, nat_tests, low) in rw e refl)

  -- and the newest at the end
  pub line_now : from_oldest (length log) (line ∷ log) ≡ Some line
  line_now = rw (same_number (length log)) refl

  pub held_now : (b : ℕ) → held_before p (line ∷ log) (length log) b ≡ holds p log b
  held_now b = rw (same_number (length log)) refl

  pub bytes_then : (k : ℕ) → k < length log → bytes_shown (held_before p (line ∷ log)) k (from_oldest k (line ∷ log)) ≡ bytes_shown (held_before p log) k (from_oldest k log)
  bytes_then k low = ap (bytes_shown (held_before p (line ∷ log)) k) (line_then k low) ∙ bytes_by (held_before p (line ∷ log)) (held_before p log) k (held_then k low) (from_oldest k log)

  pub attrs_then : (k : ℕ) → k < length log → attrs_shown (held_before p (line ∷ log)) k (from_oldest k (line ∷ log)) ≡ attrs_shown (held_before p log) k (from_oldest k log)
  attrs_then k low = ap (attrs_shown (held_before p (line ∷ log)) k) (line_then k low) ∙ attrs_by (held_before p (line ∷ log)) (held_before p log) k (held_then k low) (from_oldest k log)

  names_then : (k : ℕ) → k < length log → names_shown (held_before p (line ∷ log)) k (from_oldest k (line ∷ log)) ≡ names_shown (held_before p log) k (from_oldest k log)
  names_then k low = ap (names_shown (held_before p (line ∷ log)) k) (line_then k low) ∙ names_by (held_before p (line ∷ log)) (held_before p log) k (held_then k low) (from_oldest k log)

  -- what was read is what the longer log shows
  pub still_shown : (reads : List (Option ℕ)) (lists : List (Option (List (NameId × Entry)))) → AreShown p log reads lists → AreShown p (line ∷ log) reads lists
  still_shown [] [] h = tt
  still_shown [] (x ∷ lists) h = absurd h
  still_shown (None ∷ reads) [] h = absurd h
  still_shown (None ∷ reads) (None ∷ lists) h = still_shown reads lists h
  still_shown (None ∷ reads) (Some names ∷ lists) h = absurd h
  still_shown (Some t ∷ reads) [] h = absurd h
  still_shown (Some t ∷ reads) (None ∷ lists) h = absurd h
  still_shown (Some t ∷ reads) (Some names ∷ lists) h = (omega (arith, h.0), h.1 ∙ sym (names_then t h.0), still_shown reads lists h.2)

  pub still_held : (kind : Kind) (read : Option ℕ) (reads : List (Option ℕ)) (contents : ReadSoFar) → HoldsReads p log kind read reads contents → HoldsReads p (line ∷ log) kind read reads contents
  still_held kind_of.Names read reads (Names names) h = still_shown reads names.lists h
  still_held kind_of.Names read reads Nothing h = absurd h
  still_held kind_of.Names read reads (Bytes bytes) h = absurd h
  still_held kind_of.Names read reads (Attrs attrs) h = absurd h
  still_held kind_of.Bytes (Some t) reads contents h = (omega (arith, h.0), h.1 ∙ ap Bytes (sym (bytes_then t h.0)))
  still_held kind_of.Bytes None reads (Names names) h = absurd h
  still_held kind_of.Bytes None reads (Attrs attrs) h = absurd h
  still_held kind_of.Bytes None reads Nothing h = tt
  still_held kind_of.Bytes None reads (Bytes bytes) h = tt
  still_held kind_of.Attrs (Some t) reads contents h = (omega (arith, h.0), h.1 ∙ ap Attrs (sym (attrs_then t h.0)))
  still_held kind_of.Attrs None reads contents h = h

-- ---- without a read
-- what is held of bytes, one may hold where the source's read isn't there
pub bytes_any : (p : Plan) (log longer : List Line) (read : Option ℕ) (reads others : List (Option ℕ)) (contents : ReadSoFar) → HoldsReads p log kind_of.Bytes read reads contents → HoldsReads p longer kind_of.Bytes None others contents
bytes_any p log longer (Some t) reads others contents h = subst (HoldsReads p longer kind_of.Bytes None others) (sym h.1) tt
bytes_any p log longer None reads others Nothing h = tt
bytes_any p log longer None reads others (Bytes bytes) h = tt
bytes_any p log longer None reads others (Attrs attrs) h = absurd h
bytes_any p log longer None reads others (Names names) h = absurd h

-- ---- five places
-- no read at any brick
abbrev pub unread : List (Option ℕ)
unread = None ∷ None ∷ None ∷ None ∷ None ∷ []

pub none_at : (x : ℕ) → slice_index_or unread x None ≡ None
none_at zero = refl
none_at (suc zero) = refl
none_at (suc (suc zero)) = refl
none_at (suc (suc (suc zero))) = refl
none_at (suc (suc (suc (suc zero)))) = refl
none_at (suc (suc (suc (suc (suc x))))) = refl

-- a list of five is its five places
pub five_places : (reads : List (Option ℕ)) → length reads ≡ 5
    → reads ≡ slice_index_or reads 0 None ∷ slice_index_or reads 1 None ∷ slice_index_or reads 2 None ∷ slice_index_or reads 3 None ∷ slice_index_or reads 4 None ∷ []
five_places (a ∷ b ∷ c ∷ d ∷ e ∷ []) h = refl
five_places (a ∷ b ∷ c ∷ d ∷ e ∷ f ∷ more) h = absurd (omega (arith, h))
five_places (a ∷ b ∷ c ∷ d ∷ []) h = absurd (cc h)
five_places (a ∷ b ∷ c ∷ []) h = absurd (cc h)
five_places (a ∷ b ∷ []) h = absurd (cc h)
five_places (a ∷ []) h = absurd (cc h)
five_places [] h = absurd (cc h)

-- where each of them is none
pub all_unread : (reads : List (Option ℕ)) → length reads ≡ 5 → ((x : ℕ) → slice_index_or reads x None ≡ None) → reads ≡ unread
all_unread reads five none = five_places reads five ∙ (λ i. none 0 i ∷ none 1 i ∷ none 2 i ∷ none 3 i ∷ none 4 i ∷ [])

-- a place that is set
pub set_here : (reads : List (Option ℕ)) (b : ℕ) (v : Option ℕ) → b < length reads → slice_index_or (slice_set reads b v) b None ≡ v
set_here [] b v low = absurd (omega (arith, low))
set_here (x ∷ reads) zero v low = refl
set_here (x ∷ reads) (suc b) v low = set_here reads b v (omega (arith, low))

pub set_there : (reads : List (Option ℕ)) (b x : ℕ) (v : Option ℕ) → (x ≡ b → ⊥) → slice_index_or (slice_set reads b v) x None ≡ slice_index_or reads x None
set_there [] b x v other = refl
set_there (y ∷ reads) zero zero v other = absurd (other refl)
set_there (y ∷ reads) zero (suc x) v other = refl
set_there (y ∷ reads) (suc b) zero v other = refl
set_there (y ∷ reads) (suc b) (suc x) v other = set_there reads b x v (λ e. other (ap (λ (n : ℕ). suc n) e))

-- none where there was none changes nothing
pub set_none : (reads : List (Option ℕ)) (b : ℕ) → slice_index_or reads b None ≡ None → slice_set reads b None ≡ reads
set_none [] b e = refl
set_none (x ∷ reads) zero e = ap (λ (y : Option ℕ). y ∷ reads) (sym e)
set_none (x ∷ reads) (suc b) e = ap (λ (more : List (Option ℕ)). x ∷ more) (set_none reads b e)

-- a list of names, and the read that showed it
pub shown_set : (p : Plan) (log : List Line) (reads : List (Option ℕ)) (lists : List (Option (List (NameId × Entry)))) (b t : ℕ) (names : List (NameId × Entry)) → t < length log
    → names ≡ names_shown (held_before p log) t (from_oldest t log) → AreShown p log reads lists → AreShown p log (slice_set reads b (Some t)) (slice_set lists b (Some names))
shown_set p log [] [] b t names low e h = tt
shown_set p log [] (x ∷ lists) b t names low e h = absurd h
shown_set p log (None ∷ reads) [] b t names low e h = absurd h
shown_set p log (Some k ∷ reads) [] b t names low e h = absurd h
shown_set p log (None ∷ reads) (Some was ∷ lists) b t names low e h = absurd h
shown_set p log (Some k ∷ reads) (None ∷ lists) b t names low e h = absurd h
shown_set p log (None ∷ reads) (None ∷ lists) zero t names low e h = (low, e, h)
shown_set p log (Some k ∷ reads) (Some was ∷ lists) zero t names low e h = (low, e, h.2)
shown_set p log (None ∷ reads) (None ∷ lists) (suc b) t names low e h = shown_set p log reads lists b t names low e h
shown_set p log (Some k ∷ reads) (Some was ∷ lists) (suc b) t names low e h = (h.0, h.1, shown_set p log reads lists b t names low e h.2)

-- the lists that there are, are what the reads showed
pub all_shown : (p : Plan) (log : List Line) (reads : List (Option ℕ)) (lists : List (Option (List (NameId × Entry)))) → AreShown p log reads lists → present lists ≡ all_names_shown (held_before p log) log reads
all_shown p log [] [] h = refl
all_shown p log [] (x ∷ lists) h = absurd h
all_shown p log (None ∷ reads) [] h = absurd h
all_shown p log (Some k ∷ reads) [] h = absurd h
all_shown p log (None ∷ reads) (Some was ∷ lists) h = absurd h
all_shown p log (Some k ∷ reads) (None ∷ lists) h = absurd h
all_shown p log (None ∷ reads) (None ∷ lists) h = all_shown p log reads lists h
all_shown p log (Some k ∷ reads) (Some was ∷ lists) h = λ i. h.1 i ∷ all_shown p log reads lists h.2 i
