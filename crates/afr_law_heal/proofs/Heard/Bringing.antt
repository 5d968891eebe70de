-- What goes with a heal's repairs, and what a heal holds once a part begins or another line comes.
use Rattle.std.proofs.Common.{◌≡◌, ℕ, nat_le, Bool, true, false, List, [], ◌∷◌, Option, None, Some, length, refl, sym, ap, ◌∙◌, subst}
use Rattle.afr_base.specs.declared.ids.Gfid.{Gfid}
use Rattle.afr_base.specs.declared.ids.Kind.{Kind}
use Rattle.afr_base.specs.declared.ids.Kind.TheVariants as kind_of
use Rattle.afr_base.specs.declared.ids.NameId.{NameId}
use Rattle.afr_base.proofs.TestLemmas.{same_number}
use Rattle.afr_object.specs.State.{contents_of}
use Rattle.afr_discipline.specs.Five.{has_read}
use Rattle.afr_discipline.specs.Stands.{reads_of, seen_as}
use Rattle.afr_heal.proofs.Finding.{passed_behind, turn_set}
use Rattle.afr_heal.proofs.StagesWalk.{after_elim, broken_elim, first_elim, heal_elim, lock_elim, look_elim, looks_later}
use Rattle.afr_heal.specs.Engine.{Begins, NextOfHeal, next_of}
use Rattle.afr_heal.specs.Requests.{position, read_in, repair_in}
use Rattle.afr_heal.specs.Standing.{Ending, First, Going, Healing as HealingLocks, Looking, Parting, Standing, Viewing, Working}
use Rattle.afr_heal_merge.specs.Merging.{present}
use Rattle.afr_law_heal.proofs.Heard.Asks.{HealAsked, OfFirst, OfLock, OfLook, OfMend, OfPre, OfRead, OfSettle, OfUnlock, asked_of}
use Rattle.afr_law_heal.proofs.Heard.Showing.{all_shown, all_unread, bytes_any, five_places, none_at, still_held, unread}
use Rattle.afr_law_heal.specs.Heard.Holds.{AreShown, HealBrings, HoldsBegun, HoldsOther, HoldsReads, NothingRead}
use Rattle.afr_lines.specs.Log.{from_oldest}
use Rattle.afr_lines.specs.declared.line.Line.{Line}
use Rattle.afr_lines.specs.declared.line.Line.TheVariants.{HealBegin}
use Rattle.afr_lines.specs.declared.request.Request.{Request}
use Rattle.afr_model.specs.Tables.{Past, all_names_shown, attrs_shown, bytes_shown, carried, held_before}
use Rattle.afr_model_moves.specs.Keeps.{keeps_in}
use Rattle.afr_model_moves.specs.Register.{Exact, Finish, HealPart, Mends, Opening, Piece, Reads, WorkLocks, asked_in, is_opening, over, rank}
use Rattle.afr_model_moves.specs.Steps.{looks_at, mends_at, reads_at}
use Rattle.afr_object.specs.Repairs.{merged}
use Rattle.afr_object.specs.Repairs as contents_in
use Rattle.afr_object.specs.declared.change.Load.{Load}
use Rattle.afr_object.specs.declared.entry.Entry.{Entry}
use Rattle.afr_plan.specs.declared.plan.Plan.{Plan}
use Rattle.afr_heal_machine.specs.Contents.{AreMerged, IsMerged, carried_in, merge_in, readied}
use Rattle.afr_heal_machine.specs.Healing.{begun}
use Rattle.afr_heal_machine.specs.declared.contents.ReadSoFar.{ReadSoFar}
use Rattle.afr_heal_machine.specs.declared.contents.ReadSoFar.TheVariants.{Nothing, Bytes, Attrs, Names}
use Rattle.afr_heal_machine.specs.declared.contents.NamesRead.{NamesRead}
use Rattle.afr_server.specs.Carried.{Brings}

-- ---- another line
pub holds_other : HoldsOther
holds_other p m log line k = record { shown = still_held p line log m.kind (reads_of m.register.reads m.source.0) m.register.reads m.contents k.shown; unread = k.unread }

-- ---- a part begins
-- only Work locks come before it
begins_at : (n : ℕ) (keeps : ℕ → Kind → Bool) (r : Exact) (s : ℕ) (g : Gfid) (kind : Kind) → Standing n keeps r s g kind → next_of n keeps r s g kind ≡ Begins → r.step ≡ WorkLocks
begins_at n keeps r s g kind (First k) = first_elim n keeps r s g kind k (λ (next : NextOfHeal). next ≡ Begins → r.step ≡ WorkLocks) (λ e. absurd (cc e))
begins_at n keeps r s g kind (HealingLocks k) = heal_elim n keeps r s g kind k (λ (next : NextOfHeal). next ≡ Begins → r.step ≡ WorkLocks) (λ c l t e. absurd (cc e)) (λ o c l t e. absurd (cc e))
begins_at n keeps r s g kind (Working k) = lock_elim n keeps r s g kind (λ (next : NextOfHeal). next ≡ Begins → r.step ≡ WorkLocks) k.whole k.step (λ c l t e. absurd (cc e)) (λ o e. k.step)
begins_at n keeps r s g kind (Looking k) =
    look_elim n keeps r s g kind (λ (next : NextOfHeal). next ≡ Begins → r.step ≡ WorkLocks) k.whole k.step (subst (λ (part : HealPart). over n (looks_at r part) r.asked ≡ false) (sym k.opening) k.more) (λ c l t e. absurd (cc e))
begins_at n keeps r s g kind (Parting k) = lock_elim n keeps r s g kind (λ (next : NextOfHeal). next ≡ Begins → r.step ≡ WorkLocks) k.whole k.step (λ c l t e. absurd (cc e)) (λ o e. k.step)
begins_at n keeps r s g kind (Viewing k) = look_elim n keeps r s g kind (λ (next : NextOfHeal). next ≡ Begins → r.step ≡ WorkLocks) k.whole k.step (looks_later n keeps r s g kind k.part k.more) (λ c l t e. absurd (cc e))
begins_at n keeps r s g kind (Going k) = after_elim n keeps r s g kind k (λ (next : NextOfHeal). next ≡ Begins → r.step ≡ WorkLocks)
    (λ c l t e. absurd (cc e)) (λ o c l t e. absurd (cc e)) (λ o c l t e. absurd (cc e)) (λ o c l t e. absurd (cc e)) (λ o c l t e. absurd (cc e)) (λ o p q c l t e. absurd (cc e)) (λ o p q c l t e. absurd (cc e)) (λ p q e. absurd (cc e))
begins_at n keeps r s g kind (Ending k) = broken_elim n keeps r s g kind (λ (next : NextOfHeal). next ≡ Begins → r.step ≡ WorkLocks) k.broken (λ c l t e. absurd (cc e)) (λ none c l t e. absurd (cc e)) (λ none left e. absurd (cc e))

-- nothing was read before the looks
none_before : (r : Exact) → r.step ≡ WorkLocks → ((x : ℕ) → nat_le (rank r.step) 8 ≡ true → asked_in r Reads x ≡ false → r.reads x ≡ None) → (x : ℕ) → r.reads x ≡ None
none_before r at unread x = unread x (rw at refl) (rw at refl)

-- so what is held is what no read showed
held_begun : (p : Plan) (log longer : List Line) (kind : Kind) (reads : List (Option ℕ)) (s : ℕ) (r : Exact) (contents : ReadSoFar) → r.reads ≡ reads_of reads → length reads ≡ 5 → r.step ≡ WorkLocks → NothingRead kind r contents
    → HoldsReads p log kind (reads_of reads s) reads contents → HoldsReads p longer kind (reads_of unread s) unread contents
held_begun p log longer kind_of.Bytes reads s r contents same five at none h = subst (λ (read : Option ℕ). HoldsReads p longer kind_of.Bytes read unread contents) (sym (none_at s)) (bytes_any p log longer (reads_of reads s) reads unread contents h)
held_begun p log longer kind_of.Attrs reads s r contents same five at none h =
    let is : reads_of reads s ≡ None = ap (λ (f : ℕ → Option ℕ). f s) (sym same) ∙ none_before r at none s in
    let was : HoldsReads p log kind_of.Attrs None reads contents = subst (λ (read : Option ℕ). HoldsReads p log kind_of.Attrs read reads contents) is h in
    subst (λ (read : Option ℕ). HoldsReads p longer kind_of.Attrs read unread contents) (sym (none_at s)) was
held_begun p log longer kind_of.Names reads s r (Names names) same five at none h = go names.lists (subst (λ (x : List (Option ℕ)). AreShown p log x names.lists) is h)
  where
    is : reads ≡ unread
    is = all_unread reads five (λ x. ap (λ (f : ℕ → Option ℕ). f x) (sym same) ∙ none_before r at none x)

    go : (lists : List (Option (List (NameId × Entry)))) → AreShown p log unread lists → AreShown p longer unread lists
    go (None ∷ None ∷ None ∷ None ∷ None ∷ []) h = tt
    go (None ∷ None ∷ None ∷ None ∷ None ∷ x ∷ more) h = absurd h
    go (None ∷ None ∷ None ∷ None ∷ Some x ∷ more) h = absurd h
    go (None ∷ None ∷ None ∷ None ∷ []) h = absurd h
    go (None ∷ None ∷ None ∷ Some x ∷ more) h = absurd h
    go (None ∷ None ∷ None ∷ []) h = absurd h
    go (None ∷ None ∷ Some x ∷ more) h = absurd h
    go (None ∷ None ∷ []) h = absurd h
    go (None ∷ Some x ∷ more) h = absurd h
    go (None ∷ []) h = absurd h
    go (Some x ∷ more) h = absurd h
    go [] h = absurd h
held_begun p log longer kind_of.Names reads s r Nothing same five at none h = absurd h
held_begun p log longer kind_of.Names reads s r (Bytes bytes) same five at none h = absurd h
held_begun p log longer kind_of.Names reads s r (Attrs attrs) same five at none h = absurd h

unread_begun : (kind : Kind) (r new : Exact) (contents : ReadSoFar) → ((x : ℕ) → new.reads x ≡ None) → new.part ≡ r.part → NothingRead kind r contents → NothingRead kind new contents
unread_begun kind_of.Bytes r new contents none part k = λ first. (none, (k (ap is_opening (sym part) ∙ first)).1)
unread_begun kind_of.Attrs r new contents none part k = λ x low new. none x
unread_begun kind_of.Names r new contents none part k = λ x low new. none x

pub holds_begun : HoldsBegun
holds_begun p m log a h e k = record {
  shown = held_begun p log (HealBegin a m.gfid m.kind ∷ log) m.kind m.register.reads m.source.0 (seen_as m.register) m.contents refl h.heals.five.reads at k.unread k.shown;
  unread = unread_begun m.kind (seen_as m.register) (seen_as (begun (length log) m).register) m.contents none_at refl k.unread;
}
  where
    at : (seen_as m.register).step ≡ WorkLocks
    at = begins_at m.register.shape.n (keeps_in m.register.shape) (seen_as m.register) m.source.0 m.gfid m.kind h.heals.standing e

-- ---- what goes with a repair
merge_is : (read : NamesRead) → IsMerged read → merge_in read read.merged ≡ merged (present read.lists)
merge_is read k = go read.merged refl
  where
    go : (x : Option (List (NameId × Entry))) → read.merged ≡ x → merge_in read x ≡ merged (present read.lists)
    go None e = refl
    go (Some names) e = k.merge names e

module _ (p : Plan) (log : List Line) (n : ℕ) (keeps : ℕ → Kind → Bool) (r : Exact) (s b : ℕ) (g : Gfid) (reads : List (Option ℕ)) (same : r.reads ≡ reads_of reads) (five : length reads ≡ 5) (contents : ReadSoFar) (sound : AreMerged contents) (load : Load)
    (goes : contents_of load ≡ carried_in (readied contents)) where
  abbrev Goal : Kind → HealPart → Type 0
  Goal kind part = contents_of load ≡ carried (held_before p log) log (repair_in r s g kind part)

  bytes_goes : (read : Option ℕ) → has_read read ≡ true → HoldsReads p log kind_of.Bytes read reads contents → contents_of load ≡ contents_in.Bytes (bytes_shown (held_before p log) (position read) (from_oldest (position read) log))
  bytes_goes None there h = absurd (cc there)
  bytes_goes (Some t) there h = goes ∙ ap (λ (c : ReadSoFar). carried_in (readied c)) h.1

  attrs_goes : (read : Option ℕ) → has_read read ≡ true → HoldsReads p log kind_of.Attrs read reads contents → contents_of load ≡ contents_in.Attrs (attrs_shown (held_before p log) (position read) (from_oldest (position read) log))
  attrs_goes None there h = absurd (cc there)
  attrs_goes (Some t) there h = goes ∙ ap (λ (c : ReadSoFar). carried_in (readied c)) h.1

  names_goes : (c : ReadSoFar) → contents ≡ c → AreMerged c → HoldsReads p log kind_of.Names (reads_of reads s) reads c → contents_of load ≡ contents_in.Names (merged (all_names_shown (held_before p log) log reads))
  names_goes (Names read) e k h = goes ∙ ap (λ (c : ReadSoFar). carried_in (readied c)) e ∙ ap contents_in.Names (merge_is read k ∙ ap merged (all_shown p log reads read.lists h))
  names_goes Nothing e k h = absurd h
  names_goes (Bytes bytes) e k h = absurd h
  names_goes (Attrs attrs) e k h = absurd h

  -- the repair of a part carries what the part's reads showed
  mend_goes : (kind : Kind) (part : HealPart) → mends_at keeps r s kind part b ≡ true → (reads_at n keeps r s kind part s ≡ true → has_read (r.reads s) ≡ true) → (kind ≡ kind_of.Bytes → is_opening part ≡ true → contents ≡ Nothing)
      → HoldsReads p log kind (reads_of reads s) reads contents → Goal kind part
  mend_goes kind_of.Bytes Opening turns noted none h = goes ∙ ap (λ (c : ReadSoFar). carried_in (readied c)) (none refl refl)
  mend_goes kind_of.Bytes Piece turns noted none h = bytes_goes (r.reads s) (noted (same_number s)) (subst (λ (f : ℕ → Option ℕ). HoldsReads p log kind_of.Bytes (f s) reads contents) (sym same) h)
  mend_goes kind_of.Bytes Finish turns noted none h = absurd (cc turns)
  mend_goes kind_of.Attrs part turns noted none h = attrs_goes (r.reads s) (noted (same_number s)) (subst (λ (f : ℕ → Option ℕ). HoldsReads p log kind_of.Attrs (f s) reads contents) (sym same) h)
  mend_goes kind_of.Names part turns noted none h =
      names_goes contents refl sound h
      ∙ ap (λ (xs : List (Option ℕ)). contents_in.Names (merged (all_names_shown (held_before p log) log xs))) (five_places reads five ∙ ap (λ (f : ℕ → Option ℕ). f 0 ∷ f 1 ∷ f 2 ∷ f 3 ∷ f 4 ∷ []) (sym same))

-- nothing else carries anything
read_brings : (r : Exact) (g : Gfid) (kind : Kind) (load : Load) (log : List Line) (past : Past) → Brings (read_in r g kind) load log past
read_brings r g kind_of.Bytes load log past = tt
read_brings r g kind_of.Attrs load log past = tt
read_brings r g kind_of.Names load log past = tt

none_read : (kind : Kind) (r : Exact) (contents : ReadSoFar) → NothingRead kind r contents → kind ≡ kind_of.Bytes → is_opening r.part ≡ true → contents ≡ Nothing
none_read kind_of.Bytes r contents k e first = (k first).1
none_read kind_of.Attrs r contents k e first = absurd (cc e)
none_read kind_of.Names r contents k e first = absurd (cc e)

pub heal_brings : HealBrings
heal_brings p m log b request load h k e goes = by (asked_of n keeps r s m.gfid m.kind b request h.heals.standing e)
  where
    n : ℕ
    n = m.register.shape.n

    keeps : ℕ → Kind → Bool
    keeps = keeps_in m.register.shape

    r : Exact
    r = seen_as m.register

    s : ℕ
    s = m.source.0

    same : (q : Request) → request ≡ q → Brings q load log (held_before p log) → Brings request load log (held_before p log)
    same q is given = subst (λ (x : Request). Brings x load log (held_before p log)) (sym is) given

    by : HealAsked n keeps r s m.gfid m.kind b request → Brings request load log (held_before p log)
    by (OfFirst area out is low) = same _ is tt
    by (OfLock domain area on is low) = same _ is tt
    by (OfUnlock domain area on is) = same _ is tt
    by (OfLook on is low) = same _ is tt
    by (OfRead going is turns) = same _ is (read_brings r m.gfid m.kind load log (held_before p log))
    by (OfPre on is) = same _ is tt
    by (OfSettle less on is) = same _ is tt
    by (OfMend going is passed turns) =
        same _ is
        (mend_goes p log n keeps r s b m.gfid m.register.reads refl h.heals.five.reads m.contents h.merged load goes m.kind r.part
        (subst (λ (what : Kind). mends_at keeps r s what r.part b ≡ true) going.is_kind (turn_set n keeps r s Mends b turns))
        (λ set. let own = subst (λ (what : Kind). reads_at n keeps r s what r.part s ≡ true) (sym going.is_kind) set in going.noted s going.below own (passed_behind n keeps r s Reads passed s going.below own))
        (none_read m.kind r m.contents k.unread) k.shown)
