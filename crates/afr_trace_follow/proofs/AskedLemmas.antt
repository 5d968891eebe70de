-- What a work has asked along its paths, one line more, and what a rename keeps to by it.
use Rattle.std.proofs.Common.{◌⊎◌, inl, inr, ◌≡◌, ◌↔◌, ◌∙◌, ℕ, ◌+◌, ◌<◌, ◌≤◌, ◌==◌, ◌&&◌, Bool, true, false, List, [], ◌∷◌, Option, Some, None, length, take, reverse, slice_get, refl, sym, ap, subst, arith, if◌then◌else◌}
use Rattle.std.proofs.lemmas.Bool.Decides.{eqb_tells, nat_tests}
use Rattle.afr_base.specs.declared.ids.Gfid.{Gfid}
use Rattle.afr_base.specs.declared.ids.NameId.{NameId}
use Rattle.afr_lines.specs.Log.{from_oldest}
use Rattle.afr_lines.specs.LogLemmas.{from_oldest-reverse}
use Rattle.afr_lines.specs.Work.{Work}
use Rattle.afr_lines.specs.declared.line.Line.{Line}
use Rattle.afr_lines.specs.declared.line.Line.TheVariants.{Ask}
use Rattle.afr_lines.specs.declared.request.Request.TheVariants.{ReadName}
use Rattle.afr_model.specs.Parts.{names_asked}
use Rattle.afr_model.specs.Showing.{begins_attempt}
use Rattle.afr_model.specs.Standing.{asks_name}
use Rattle.afr_model.specs.Tables.{Past, entry_at, held_before, holds}
use Rattle.afr_object.specs.Tables.{Table, root}
use Rattle.afr_object.specs.declared.entry.Entry.{Entry}
use Rattle.afr_plan.specs.declared.plan.Plan.{Plan}
use Rattle.afr_trace_follow.proofs.LogLemmas.{held_at}
use Rattle.afr_trace_follow.specs.Asked.{AsksThere, IsAsked, IsFewAsked, asks_in, dir_next, dir_of, entry_given, given_to, if_given}
use Rattle.afr_trace_follow.specs.Renaming.{IsDueName, dir_due, name_due}
use Rattle.afr_trace_follow.specs.declared.asked.Asked.{Asked}
use Rattle.afr_trace_tally.specs.Entries.{entry_shown}

-- ---- what is kept
pub none_is : (p : Plan) (k : ℕ) (x : Asked) → x.names ≡ 0 → x.dir ≡ None → x.entry ≡ None → x.begun ≡ 0 → IsAsked p k [] x
none_is p k x hn hd he hb = record { names = hn; dir = hd; entry = he; begun = hb }

pub cons_is : (p : Plan) (k : ℕ) (line : Line) (older : List Line) (w : Work) (was new : Asked) (entry : Option Entry) → new.names ≡ (if asks_name line then was.names + 1 else was.names)
    → new.dir ≡ (if asks_name line && (was.names + 1 == k) then asks_in line else was.dir) → new.entry ≡ (if asks_name line && (was.names + 1 == k) then given_to line entry else was.entry)
    → new.begun ≡ (if begins_attempt line then was.begun + 1 else was.begun) → given_to line entry ≡ entry_given p line older → IsAsked p k w was → IsAsked p k ((line, older) ∷ w) new
cons_is p k line older w was new entry hn hd he hb given v = record {
  names = hn ∙ ap (λ (n : ℕ). if asks_name line then n + 1 else n) v.names;
  dir = hd ∙ ap (λ (n : ℕ). if asks_name line && (n + 1 == k) then asks_in line else was.dir) v.names ∙ ap (λ (d : Option Gfid). if asks_name line && (names_asked w + 1 == k) then asks_in line else d) v.dir;
  entry = he ∙ ap (λ (n : ℕ). if asks_name line && (n + 1 == k) then given_to line entry else was.entry) v.names
      ∙ ap (λ (e : Option Entry). if asks_name line && (names_asked w + 1 == k) then e else was.entry) given
      ∙ ap (λ (e : Option Entry). if asks_name line && (names_asked w + 1 == k) then entry_given p line older else e) v.entry;
  begun = hb ∙ ap (λ (n : ℕ). if begins_attempt line then n + 1 else n) v.begun;
}

-- few names and attempts stay few
pub few_more : (n : ℕ) (x : Asked) → IsFewAsked n x → IsFewAsked (n + 1) x
few_more n x f = record { names = omega (arith, f.names); begun = omega (arith, f.begun) }

one_few : (t : Bool) (m n : ℕ) → m ≤ n → (if t then m + 1 else m) ≤ n + 1
one_few true m n h = omega (arith, h)
one_few false m n h = omega (arith, h)

pub few_after : (n : ℕ) (asks begins : Bool) (was new : Asked) → new.names ≡ (if asks then was.names + 1 else was.names) → new.begun ≡ (if begins then was.begun + 1 else was.begun) → IsFewAsked n was → IsFewAsked (n + 1) new
few_after n asks begins was new hn hb f = record {
  names = subst (λ (m : ℕ). m ≤ n + 1) (sym hn) (one_few asks was.names n f.names);
  begun = subst (λ (m : ℕ). m ≤ n + 1) (sym hb) (one_few begins was.begun n f.begun);
}

-- what a line is given, by the entry that it showed
given_then : (p : Plan) (line : Line) (older : List Line) (entry : Option Entry) (all : Past) (k : ℕ) → ((b : ℕ) → all k b ≡ holds p older b) → entry ≡ entry_shown all k (Some line) → given_to line entry ≡ entry_given p line older
given_then p (Ask a b (ReadName g name) told took) older entry all k h e = ap (λ (o : Option Entry). if_given told o) (e ∙ ap (λ (t : Table). entry_at g name t) (h b.0))
given_then p line older entry all k h e = refl

pub given_at : (p : Plan) (log : List Line) (k : ℕ) (line : Line) (entry : Option Entry) → k < length log → slice_get log k ≡ Some line → entry ≡ entry_shown (held_before p (reverse log)) k (from_oldest k (reverse log))
    → given_to line entry ≡ entry_given p line (reverse (take k log))
given_at p log k line entry low here e =
    given_then p line (reverse (take k log)) entry (held_before p (reverse log)) k (λ b. held_at p log k b low)
    (e ∙ ap (λ (o : Option Line). entry_shown (held_before p (reverse log)) k o) (from_oldest-reverse log k ∙ here))

-- ---- the next name
-- where a line asks a name
pub there_is : (p : Plan) (line : Line) (w : Work) (g : Gfid) (dir : Option Gfid) → Some g ≡ asks_in line → dir ≡ dir_next p w → (dir ≡ Some g → AsksThere p line w) × (AsksThere p line w → dir ≡ Some g)
there_is p (Ask a b (ReadName h name) told took) w g dir e d = (λ k. sym d ∙ k ∙ e, λ k. d ∙ k ∙ sym e)
there_is p line w g dir e d = absurd (cc e)

pub nowhere : (p : Plan) (line : Line) (w : Work) → None ≡ asks_in line → AsksThere p line w
nowhere p (Ask a b (ReadName h name) told took) w e = absurd (cc e)
nowhere p line w e = tt

-- where a rename asks the next one
abbrev due_by : Plan → List NameId → Work → Bool → Bool → Option Gfid
due_by p from w second last = if second then Some root else (if last then dir_of (length from) w else dir_next p w)

module _ (p : Plan) (from to : List NameId) (w : Work) (n : ℕ) (e : n ≡ names_asked w) where
  due_is : (second last : Bool) → (n == length from) ≡ second → (n == length from + length to) ≡ last → due_by p from w second last ≡ dir_due p from to w
  due_is second last hf hl =
      sym (ap (λ (t : Bool). due_by p from w t last) (ap (λ (m : ℕ). m == length from) (sym e) ∙ hf))
      ∙ sym (ap (λ (t : Bool). due_by p from w (names_asked w == length from) t) (ap (λ (m : ℕ). m == length from + length to) (sym e) ∙ hl))

  same_test : (r : Bool) → ((r ≡ true) ↔ (n ≡ length from)) → (n == length from) ≡ r
  same_test true h = grind (arith, nat_tests, h.0 refl)
  same_test false h = by (eqb_tells n (length from))
    where
      by : ((n == length from) ≡ true) × (n ≡ length from) ⊎ ((n == length from) ≡ false) × (n ≡ length from → ⊥) → (n == length from) ≡ false
      by (inl s) = absurd (cc (h.1 s.1))
      by (inr s) = s.0

  pub root_due : (r : Bool) → ((r ≡ true) ↔ (n ≡ length from)) → r ≡ true → Some root ≡ dir_due p from to w
  root_due r h k = due_is true (n == length from + length to) (same_test r h ∙ k) refl

  pub again_due : (r : Bool) → ((r ≡ true) ↔ (n ≡ length from)) → r ≡ false → (n == length from + length to) ≡ true → dir_of (length from) w ≡ dir_due p from to w
  again_due r h k last = due_is false true (same_test r h ∙ k) last

  pub next_due : (r : Bool) → ((r ≡ true) ↔ (n ≡ length from)) → r ≡ false → (n == length from + length to) ≡ false → dir_next p w ≡ dir_due p from to w
  next_due r h k last = due_is false false (same_test r h ∙ k) last

pub due_name : (p : Plan) (from to : List NameId) (g : Gfid) (name : NameId) (w : Work) (next : Option NameId) (dir : Option Gfid) → next ≡ name_due from to (names_asked w) → dir ≡ dir_due p from to w
    → ((next ≡ Some name) × (dir ≡ Some g) → IsDueName p from to g name w) × (IsDueName p from to g name w → (next ≡ Some name) × (dir ≡ Some g))
due_name p from to g name w next dir hn hd = (λ k. record { named = sym hn ∙ k.0; within = sym hd ∙ k.1 }, λ k. (hn ∙ k.named, hd ∙ k.within))
