-- A heal keeps what it keeps, whatever its bricks answer.
use Rattle.std.proofs.Common.{◌≡◌, ◌∙◌, ◌<◌, ◌≤◌, ◌+◌, ◌^◌, ◌&&◌, ◌⊎◌, inl, inr, ℕ, zero, suc, Bool, ap, arith, false, nat_lt, refl, subst, sym, true, if◌then◌else◌}
use Rattle.std.proofs.lemmas.Bool.Decides.{nat_tests}
use Rattle.afr_base.specs.Bricks.{member}
use Rattle.afr_base.specs.declared.ids.BrickId.{BrickId}
use Rattle.afr_base.specs.declared.ids.Kind.{Kind}
use Rattle.afr_base.specs.declared.ids.Kind.TheVariants as kind_of
use Rattle.afr_base.specs.declared.ids.Shape.{Shape}
use Rattle.afr_choice.specs.Looks.{no_looks}
use Rattle.afr_discipline.specs.Laws.{NotesStand, ShapesKept}
use Rattle.afr_discipline.specs.Stands.{Stands, heal_part_of, seen_as, step_of, views_of}
use Rattle.afr_discipline.specs.Turns.{candidate, marks_in}
use Rattle.afr_discipline.specs.declared.register.Move.{Move}
use Rattle.afr_discipline.specs.declared.register.Move.TheVariants as move
use Rattle.afr_discipline.specs.declared.register.Register.{Register}
use Rattle.afr_heal.proofs.Carried.{restyled, restyled_is, self_stands}
use Rattle.afr_heal.proofs.Parts.{both, not_both, pair}
use Rattle.afr_heal.specs.Answers.{PicksOne, asked_for, in_range, source_after}
use Rattle.afr_heal.specs.Carried.{Heals, source_by}
use Rattle.afr_heal.specs.Engine.{Ask, NextOfHeal}
use Rattle.afr_heal.specs.Laws.{allows_next, asks_well}
use Rattle.afr_heal.specs.Moves.{HealsAllowed, HealsBegun, HealsKept, HealsMove, HealsNew}
use Rattle.afr_heal.specs.Spare.{IsSpare, SpareNext, StaysSpare}
use Rattle.afr_heal.specs.Standing.{AfterLooks, Standing}
use Rattle.afr_lines.specs.Told.{told_by}
use Rattle.afr_lines.specs.declared.answer.Answer.{Answer}
use Rattle.afr_lines.specs.declared.answer.Answer.TheVariants as answer_of
use Rattle.afr_lines.specs.declared.answer.Told.{Told}
use Rattle.afr_lines.specs.declared.answer.Told.TheVariants.{Done, Seen}
use Rattle.afr_lines.specs.declared.request.Request.{Request}
use Rattle.afr_lines.specs.declared.request.Request.TheVariants.{Lock}
use Rattle.afr_model_moves.specs.Rules.{heal_area}
use Rattle.afr_lines.specs.declared.lock.Domain.TheVariants.{Heal}
use Rattle.afr_model_moves.specs.Keeps.{keeps_in}
use Rattle.afr_model_moves.specs.Register.{Exact, HealPart, Looks, Opening, good, is_opening, len_of, same_step, span}
use Rattle.afr_model_moves.specs.Steps.{goes_on, goes_on_at}
use Rattle.afr_heal_machine.proofs.FoundLemmas.{Found, found_every, found_going, found_parts, inside_or_first, looks_is, opening_is, pick_for, pick_is, picks_for, unfound}
use Rattle.afr_heal_machine.proofs.NotedLemmas.{five_after, seen_views, told_room, told_short}
use Rattle.afr_heal_machine.specs.Contents.{AreMerged, kept, none_in}
use Rattle.afr_heal_machine.specs.Healing.{CanHear, Healing, IsHealing, IsTellable, answered, coming, register_after}
use Rattle.afr_heal_machine.specs.Laws.{HealAllowed, HealAsksLow, HealBegins, HealBegunStays, HealEndNamed, HealHasRoom, HealHasSource, HealIsInside, HealKeepsFive, HealStays}
use Rattle.afr_heal_machine.specs.Source.{HasSource, IsCandidate, is_found}
use Rattle.afr_heal_machine.specs.declared.contents.ReadSoFar.{ReadSoFar}
use Rattle.afr_heal_machine.specs.declared.contents.ReadSoFar.TheVariants as contents_are

-- ---- what was read
merged_none : (kind : Kind) → AreMerged (none_in kind)
merged_none kind_of.Names = record { merge = λ names e. absurd (cc e) }
merged_none kind_of.Bytes = tt
merged_none kind_of.Attrs = tt

merged_list : (b : ℕ) (names : _) (was : ReadSoFar) → AreMerged was → AreMerged (kept b (answer_of.Names names) was)
merged_list b names (contents_are.Names read) k = record { merge = λ list e. absurd (cc e) }
merged_list b names contents_are.Nothing k = k
merged_list b names (contents_are.Bytes bytes) k = k
merged_list b names (contents_are.Attrs attrs) k = k

merged_kept : (b : ℕ) (answer : Answer) (was : ReadSoFar) → AreMerged was → AreMerged (kept b answer was)
merged_kept b (answer_of.Bytes bytes) was k = tt
merged_kept b (answer_of.Attrs attrs) was k = tt
merged_kept b (answer_of.Names names) was k = merged_list b names was k
merged_kept b other was k = k

-- ---- small facts
tellable_range : (told : Told) → IsTellable told → in_range told ≡ true
tellable_range (Seen view) k = let l = k.len in grind (arith, nat_tests, l)
tellable_range told k = refl

-- a request as a move
abbrev move_of : ℕ → Request → Move
move_of b request = move.Ask (record { 0 = b }) (record { ref_ptr = (0, 0); now = request })

pub asks_low : HealsAllowed → HealAsksLow
asks_low allowed m k b request next =
    let well : asks_well m.register.shape.n (keeps_in m.register.shape) (seen_as m.register) b request ≡ true =
    subst (λ (next : NextOfHeal). allows_next m.register.shape.n (keeps_in m.register.shape) (seen_as m.register) m.gfid m.kind next ≡ true) next (allowed m.register m.source.0 m.gfid m.kind k.heals).0 in
    let l = (both (nat_lt b m.register.shape.n) _ well).0 in
    (grind (arith, nat_tests, l), k.heals.few)

-- ---- after an answer
module _ (notes : NotesStand) (shapes : ShapesKept) (allowed : HealsAllowed) (keeps_all : HealsKept) (m : Healing) (b : ℕ) (request : Request) (answer : Answer) (t : ℕ) (k : IsHealing m) (next : coming m ≡ Ask b request) (can : CanHear (Ask b request) answer) where
  abbrev p : Register
  p = m.register

  abbrev q : Register
  q = register_after m b request answer t

  abbrev told : Told
  told = told_by answer

  -- the exact register after it, from what the program's says before
  abbrev r : Exact
  r = asked_for p.shape.n (keeps_in p.shape) (seen_as p) t b request told

  small : b < 5
  small = let w = asks_low allowed m k b request next in omega (arith, w.0, w.1)

  same : q.shape ≡ p.shape
  same = shapes p (move_of b request) told t

  there : Stands q r
  there = notes p (seen_as p) (move_of b request) told t k.heals.few k.heals.five small (self_stands p)

  well : asks_well p.shape.n (keeps_in p.shape) (seen_as p) b request ≡ true
  well = subst (λ (next : NextOfHeal). allows_next p.shape.n (keeps_in p.shape) (seen_as p) m.gfid m.kind next ≡ true) next (allowed p m.source.0 m.gfid m.kind k.heals).0

  heals_by : (pick : (ℕ → Bool) → ℕ) → PicksOne p.shape.n pick → Heals q (source_by pick p q t b request told m.source.0) m.gfid m.kind
  heals_by pick picks = keeps_all pick p m.source.0 m.gfid m.kind picks k.heals (move_of b request) told t b request (refl, refl) next can.0 (tellable_range told can.1) (five_after p t b request told k.heals.five)

  -- the case that it is in, over the shape before
  standing_by : (pick : (ℕ → Bool) → ℕ) → PicksOne p.shape.n pick → Standing p.shape.n (keeps_in p.shape) (seen_as q) (source_by pick p q t b request told m.source.0) m.gfid m.kind
  standing_by pick picks = subst (λ (shape : Shape). Standing shape.n (keeps_in shape) (seen_as q) (source_by pick p q t b request told m.source.0) m.gfid m.kind) same (heals_by pick picks).standing

  with_source : (c : ℕ) → Standing p.shape.n (keeps_in p.shape) (seen_as q) c m.gfid m.kind → Heals q c m.gfid m.kind
  with_source c k2 =
      let h = heals_by (pick_for p.shape.n 0) (picks_for p.shape.n 0) in
      record { some = h.some; few = h.few; five = h.five; standing = subst (λ (shape : Shape). Standing shape.n (keeps_in shape) (seen_as q) c m.gfid m.kind) (sym same) k2; named = h.named }

  -- each copy may be the source at the end of the first looks
  possible_each : Found p.shape.n (seen_as q) → (x : ℕ) → x < p.shape.n → member q.possible x ≡ true
  possible_each f x low =
      sym (there.possible x (subst (λ (shape : Shape). x < shape.n) (sym same) low))
      ∙ found_every p.shape.n (keeps_in p.shape) m.source.0 m.gfid m.kind t b request told (seen_as p) k.heals.standing next well
      (let f2 = subst (λ (r2 : Exact). Found p.shape.n r2) (sym (restyled_is q r there)) f in record { whole = f2.whole; at = f2.at; part = f2.part; past = f2.past }) x low

  -- whether the line was a look of the first part
  abbrev looking : Bool
  looking = same_step r.step Looks && is_opening r.part

  looking_is : looking ≡ (same_step (step_of q.step) Looks && is_opening (heal_part_of q.part))
  looking_is = let e = there.step in let f = there.part in λ i. same_step (e i) Looks && is_opening (f i)

  not_looking : looking ≡ false → is_found p.shape.n (seen_as q) ≡ false
  not_looking h = go (is_found p.shape.n (seen_as q)) refl
    where
      go : (f : Bool) → is_found p.shape.n (seen_as q) ≡ f → f ≡ false
      go false e = refl
      go true e =
          let f = found_parts p.shape.n (seen_as q) e in
          let both_are : (same_step (step_of q.step) Looks && is_opening (heal_part_of q.part)) ≡ true = rw (f.at, f.part) refl in
          absurd (not_both looking (looking_is ∙ both_are) h)

  looking_parts : looking ≡ true → (step_of q.step ≡ Looks) × (heal_part_of q.part ≡ Opening)
  looking_parts h =
      let parts = both (same_step (step_of q.step) Looks) (is_opening (heal_part_of q.part)) (sym looking_is ∙ h) in
      (looks_is (step_of q.step) parts.0, opening_is (heal_part_of q.part) parts.1)

  -- a copy that may be the source by the program's register may be by the exact one
  candidate_back : (c : ℕ) → IsCandidate q c → (c < p.shape.n) × (candidate p.shape.n (keeps_in p.shape) r c ≡ true)
  candidate_back c w =
      let passes : candidate p.shape.n (keeps_in p.shape) (seen_as q) c ≡ true = subst (λ (shape : Shape). candidate shape.n (keeps_in shape) (seen_as q) c ≡ true) same w.passes in
      let over_r : candidate p.shape.n (keeps_in p.shape) (restyled r (member q.possible)) c ≡ true = subst (λ (r2 : Exact). candidate p.shape.n (keeps_in p.shape) r2 c ≡ true) (sym (restyled_is q r there)) passes in
      let parts = both (member q.possible c) (goes_on p.shape.n (keeps_in p.shape) r c) over_r in
      (subst (λ (shape : Shape). c < shape.n) same w.below, pair (r.possible c) (goes_on p.shape.n (keeps_in p.shape) r c) (there.possible c w.below ∙ parts.0) parts.1)

  -- with the source that was chosen, or the one that there was
  chosen_standing : (c : ℕ) → (is_found p.shape.n (seen_as q) ≡ true → IsCandidate q c) → Standing p.shape.n (keeps_in p.shape) (seen_as q) (if is_found p.shape.n (seen_as q) then c else m.source.0) m.gfid m.kind
  chosen_standing c w = go (is_found p.shape.n (seen_as q)) refl looking refl
    where
      go : (f : Bool) → is_found p.shape.n (seen_as q) ≡ f → (l : Bool) → looking ≡ l → Standing p.shape.n (keeps_in p.shape) (seen_as q) (if f then c else m.source.0) m.gfid m.kind
      go true e true h =
          let back = candidate_back c (w e) in
          let is : source_by (pick_for p.shape.n c) p q t b request told m.source.0 ≡ c = rw h (pick_is p.shape.n c (candidate p.shape.n (keeps_in p.shape) r) back.0 back.1) in
          subst (λ (s : ℕ). Standing p.shape.n (keeps_in p.shape) (seen_as q) s m.gfid m.kind) is (standing_by (pick_for p.shape.n c) (picks_for p.shape.n c))
      go true e false h = absurd (not_both (is_found p.shape.n (seen_as q)) e (not_looking h))
      go false e true h =
          let parts = looking_parts h in
          unfound p.shape.n (keeps_in p.shape) (seen_as q) _ m.gfid m.kind m.source.0 (standing_by (pick_for p.shape.n 0) (picks_for p.shape.n 0)) e parts.0 parts.1
      go false e false h =
          let is : source_by (pick_for p.shape.n 0) p q t b request told m.source.0 ≡ m.source.0 = rw h refl in
          subst (λ (s : ℕ). Standing p.shape.n (keeps_in p.shape) (seen_as q) s m.gfid m.kind) is (standing_by (pick_for p.shape.n 0) (picks_for p.shape.n 0))

  -- ---- the bytes that are done
  module _ (spares : StaysSpare) where
    spare_exact : IsSpare r (source_after p.shape.n (keeps_in p.shape) (pick_for p.shape.n 0) r m.source.0)
    spare_exact =
        subst (λ (next : NextOfHeal). SpareNext p.shape.n (keeps_in p.shape) (pick_for p.shape.n 0) (seen_as p) m.source.0 m.gfid m.kind next) next
        (spares p.shape.n (keeps_in p.shape) (pick_for p.shape.n 0) (seen_as p) m.source.0 m.gfid m.kind k.heals.some k.heals.few k.heals.standing k.heals.named k.spare) t told

    spare_as : (s : ℕ) → IsSpare r s → IsSpare (seen_as q) s
    spare_as s h = subst (λ (r2 : Exact). IsSpare r2 s) (restyled_is q r there) (record { zero_first = h.zero_first; low = h.low; piece = h.piece })

    -- in the first part any source will do
    spare_any : (s c : ℕ) → IsSpare (seen_as q) s → heal_part_of q.part ≡ Opening → IsSpare (seen_as q) c
    spare_any s c h part = record {
      zero_first = h.zero_first;
      low = let none : q.upto ≡ 0 = h.zero_first (rw part refl) in rw none (under (len_of (views_of q.seen c)));
      piece = λ e. absurd (cc (rw part at e));
    }
      where
        under : (len : ℕ) → nat_lt 0 (len + span) ≡ true
        under len = grind (arith, nat_tests)

    spare_after : (c : ℕ) → IsSpare (seen_as q) (if is_found p.shape.n (seen_as q) then c else m.source.0)
    spare_after c = go looking refl
      where
        go : (l : Bool) → looking ≡ l → IsSpare (seen_as q) (if is_found p.shape.n (seen_as q) then c else m.source.0)
        go true h = spare_any (source_after p.shape.n (keeps_in p.shape) (pick_for p.shape.n 0) r m.source.0) (if is_found p.shape.n (seen_as q) then c else m.source.0) (spare_as _ spare_exact) (looking_parts h).1
        go false h = let e = not_looking h in rw e (spare_as m.source.0 (rw h at spare_exact))

    -- ---- all of it
    pub stays : (chosen : BrickId) → (is_found p.shape.n (seen_as q) ≡ true → IsCandidate q chosen.0) → IsHealing (answered m b request answer t chosen)
    stays chosen w = record {
      heals = subst (λ (s : ℕ). Heals q s m.gfid m.kind) (source_is (is_found p.shape.n (seen_as q))) (with_source (if is_found p.shape.n (seen_as q) then chosen.0 else m.source.0) (chosen_standing chosen.0 w));
      small = small_after (is_found p.shape.n (seen_as q)) refl;
      room = seen_views (λ view. (marks_in m.kind view).dirty < 4294967295) (λ x. x < 5) p t b request told k.heals.five small k.room (omega arith) (told_room m.kind told can.1);
      short = λ x. seen_views (λ view. len_of view ≤ 1048576) (λ x. Unit {0}) p t b request told k.heals.five small (λ x u. k.short x) (omega arith) (told_short told can.1) x tt;
      spare = subst (λ (s : ℕ). IsSpare (seen_as q) s) (source_is (is_found p.shape.n (seen_as q))) (spare_after chosen.0);
      merged = merged_kept b answer m.contents k.merged;
    }
      where
        source_is : (f : Bool) → (if f then chosen.0 else m.source.0) ≡ (if f then chosen else m.source).0
        source_is true = refl
        source_is false = refl

        small_after : (f : Bool) → is_found p.shape.n (seen_as q) ≡ f → (if f then chosen else m.source).0 < 5
        small_after true e = let l = (w e).below in let n5 = (with_source _ (chosen_standing chosen.0 w)).few in omega (arith, l, n5)
        small_after false e = k.small

  -- ---- the copies that may be the source
  pub has_source : is_found p.shape.n (seen_as q) ≡ true → HasSource m.kind q
  has_source e = record { some = (s, record { below = subst (λ (shape : Shape). s < shape.n) (sym same) a.below; passes = subst (λ (shape : Shape). candidate shape.n (keeps_in shape) (seen_as q) s ≡ true) (sym same) (pair (member q.possible s) (goes_on p.shape.n (keeps_in p.shape) (seen_as q) s) a.possible a.onwards) }); copies = copies }
    where
      f : Found p.shape.n (seen_as q)
      f = found_parts p.shape.n (seen_as q) e

      s : ℕ
      s = source_by (pick_for p.shape.n 0) p q t b request told m.source.0

      a : AfterLooks p.shape.n (keeps_in p.shape) (seen_as q) s m.gfid m.kind
      a = found_going p.shape.n (keeps_in p.shape) (seen_as q) s m.gfid m.kind (standing_by (pick_for p.shape.n 0) (picks_for p.shape.n 0)) f

      -- what lets the heal go on is the same for each copy
      onwards : (part : HealPart) → part ≡ Opening → (x : ℕ) → goes_on_at p.shape.n (keeps_in p.shape) (seen_as q) s part ≡ true → goes_on_at p.shape.n (keeps_in p.shape) (seen_as q) x part ≡ true
      onwards Opening e2 x h = h
      onwards _ e2 x h = absurd (cc e2)

      all_true : (possible is_good on : Bool) → possible ≡ true → on ≡ true → (possible && (is_good && on)) ≡ is_good
      all_true true true true e1 e2 = refl
      all_true true false on e1 e2 = refl
      all_true possible is_good false e1 e2 = absurd (cc e2)
      all_true false is_good on e1 e2 = absurd (cc e1)

      copies_before : (x : ℕ) → x < p.shape.n → candidate p.shape.n (keeps_in p.shape) (seen_as q) x ≡ good p.shape.n (keeps_in p.shape) m.kind (views_of q.seen) x
      copies_before x low =
          all_true (member q.possible x) (good p.shape.n (keeps_in p.shape) q.kind (views_of q.seen) x) (goes_on_at p.shape.n (keeps_in p.shape) (seen_as q) x (heal_part_of q.part))
          (possible_each f x low) (onwards (heal_part_of q.part) f.part x (both (good p.shape.n (keeps_in p.shape) q.kind (views_of q.seen) s) (goes_on_at p.shape.n (keeps_in p.shape) (seen_as q) s (heal_part_of q.part)) a.onwards).1)
          ∙ ap (λ (kind : Kind). good p.shape.n (keeps_in p.shape) kind (views_of q.seen) x) a.is_kind

      copies : (x : ℕ) → x < q.shape.n → candidate q.shape.n (keeps_in q.shape) (seen_as q) x ≡ good q.shape.n (keeps_in q.shape) m.kind (views_of q.seen) x
      copies x low =
          subst (λ (shape : Shape). candidate shape.n (keeps_in shape) (seen_as q) x ≡ good shape.n (keeps_in shape) m.kind (views_of q.seen) x) (sym same)
          (copies_before x (subst (λ (shape : Shape). x < shape.n) same low))

-- ---- the laws
pub heal_stays : NotesStand → ShapesKept → HealsAllowed → HealsKept → StaysSpare → HealStays
heal_stays notes shapes allowed keeps_all spares m b request answer t chosen k next can w = stays notes shapes allowed keeps_all m b request answer t k next can spares chosen w

pub heal_has_source : NotesStand → ShapesKept → HealsAllowed → HealsKept → HealHasSource
heal_has_source notes shapes allowed keeps_all m b request answer t k next can e = has_source notes shapes allowed keeps_all m b request answer t k next can e

pub heal_begun_stays : HealsBegun → StaysSpare → HealBegunStays
heal_begun_stays begun_all spares m t k next = record {
  heals = begun_all (pick_for m.register.shape.n 0) m.register m.source.0 m.gfid m.kind (picks_for m.register.shape.n 0) k.heals (move.HealBegin m.gfid m.kind) Done t (refl, refl) next (record { looked = refl; seen = k.heals.five.seen; reads = refl });
  small = k.small;
  room = k.room;
  short = k.short;
  spare =
      (let h = subst (λ (next : NextOfHeal). SpareNext m.register.shape.n (keeps_in m.register.shape) (pick_for m.register.shape.n 0) (seen_as m.register) m.source.0 m.gfid m.kind next) next
      (spares m.register.shape.n (keeps_in m.register.shape) (pick_for m.register.shape.n 0) (seen_as m.register) m.source.0 m.gfid m.kind k.heals.some k.heals.few k.heals.standing k.heals.named k.spare) t in
      record { zero_first = h.zero_first; low = h.low; piece = h.piece });
  merged = k.merged;
}

none_room : (kind : Kind) (x : ℕ) → x < 5 → (marks_in kind (views_of no_looks x)).dirty < 4294967295
none_room kind zero l = omega arith
none_room kind (suc zero) l = omega arith
none_room kind (suc (suc zero)) l = omega arith
none_room kind (suc (suc (suc zero))) l = omega arith
none_room kind (suc (suc (suc (suc zero)))) l = omega arith
none_room kind (suc (suc (suc (suc (suc x))))) l = absurd (omega (arith, l))

none_short : (x : ℕ) → len_of (views_of no_looks x) ≤ 1048576
none_short zero = omega arith
none_short (suc zero) = omega arith
none_short (suc (suc zero)) = omega arith
none_short (suc (suc (suc zero))) = omega arith
none_short (suc (suc (suc (suc zero)))) = omega arith
none_short (suc (suc (suc (suc (suc x))))) = omega arith

pub heal_begins : HealsNew → HealBegins
heal_begins new_all shape g kind some few = record {
  heals = new_all shape 0 g kind some few;
  small = omega arith;
  room = λ x l. none_room kind x l;
  short = none_short;
  spare = record { zero_first = λ e. refl; low = refl; piece = λ e. absurd (cc e) };
  merged = merged_none kind;
}

pub heal_allowed : HealsMove → HealAllowed
heal_allowed moves m k step w = moves m.register m.source.0 m.gfid m.kind k.heals step w

pub heal_has_room : HealHasRoom
heal_has_room m k = let low = k.spare.low in let short = k.short m.source.0 in room_by m.register.upto (len_of (views_of m.register.seen m.source.0)) low short
  where
    room_by : (upto len : ℕ) → nat_lt upto (len + span) ≡ true → len ≤ 1048576 → upto + span < 2 ^ 32
    room_by upto len low short = grind (arith, nat_tests, low, short)

pub heal_is_inside : HealIsInside
heal_is_inside m k = go m.register.inside refl
  where
    go : (f : Bool) → m.register.inside ≡ f → (coming m ≡ Ask 0 (Lock Heal (heal_area m.gfid.0))) ⊎ (m.register.inside ≡ true)
    go true e = inr e
    go false e = inl (inside_or_first m.register.shape.n (keeps_in m.register.shape) (seen_as m.register) m.source.0 m.gfid m.kind k.heals.standing (λ h. not_both m.register.inside h e))

pub heal_keeps_five : HealKeepsFive
heal_keeps_five m k = k.heals.five

pub heal_end_named : HealEndNamed
heal_end_named m k a e = k.heals.named.named a e
