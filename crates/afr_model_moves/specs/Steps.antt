-- The steps of a heal: the bricks that each asks, and which line may come next if one copy is the source.
use Rattle.std.specs.Prelude.{ℕ, suc, ◌+◌, Bool, true, false, ◌&&◌, ◌||◌, not, ◌==◌, nat_le, nat_lt, if◌then◌else◌, slice_index, List as Seq, [], ◌∷◌, Option, None, Some}
use Rattle.afr_base.specs.Majority.{is_most}
use Rattle.afr_base.specs.declared.ids.Kind.{Kind}
use Rattle.afr_base.specs.declared.ids.Kind.TheVariants.{Bytes, Attrs, Names}
use Rattle.afr_base.specs.declared.marks.Marks.{Marks}
use Rattle.afr_object.specs.declared.change.Repair.{Repair}
use Rattle.afr_object.specs.declared.change.Repair.TheVariants.{CutTo, Copy, PutAttrs, PutNames}
use Rattle.afr_object.specs.declared.entry.View.{View}
use Rattle.afr_lines.specs.declared.lock.Domain.TheVariants.{Work, Heal}
use Rattle.afr_lines.specs.declared.request.Area.{Area}
use Rattle.afr_lines.specs.declared.request.Request.{Request}
use Rattle.afr_lines.specs.declared.request.Request.TheVariants.{Lock, Unlock, Look, ReadBytes, List, ReadAttrs, Pre, Mend, Settle}
use Rattle.afr_lines.specs.Overlap.{same_area}
use Rattle.afr_base.specs.Kinds.{same_kind}
use Rattle.afr_model_moves.specs.Sets.{any, empty}
use Rattle.afr_model_moves.specs.Honest.{view_marks}
use Rattle.afr_model_moves.specs.Rules.{busy, is_area, heal_area, some_read}
use Rattle.afr_model_moves.specs.Register.{Exact, Step, HealLocks, WorkLocks, Looks, Reads, HealPres, Mends, Settles, Unlocks, HealUnlocks, rank, same_step, HealPart, Opening, Piece, Finish, is_opening, is_finish, everywhere, asked_in, all, over, holder, unaccused, good, shows_number, len_of, whole_area, span, piece_area}

-- a holder by the first looks that is neither the source nor an arbiter
abbrev pub sink : (ℕ → Kind → Bool) → Exact → ℕ → ℕ → Bool
sink keeps r s x = holder r.first_views x && not (x == s) && keeps x Bytes

-- a holder by the first looks that is not the source
abbrev pub other : Exact → ℕ → ℕ → Bool
other r s x = holder r.first_views x && not (x == s)

-- the one brick s
abbrev pub is_only : ℕ → ℕ → Bool
is_only s x = x == s

-- reads are asked at the source, and for names at each good copy
abbrev pub reads_at : ℕ → (ℕ → Kind → Bool) → Exact → ℕ → Kind → HealPart → ℕ → Bool
reads_at n keeps r s Bytes Piece = is_only s
reads_at n keeps r s Attrs part = is_only s
reads_at n keeps r s Names part = good n keeps Names r.first_views
reads_at n keeps r s _ _ = empty

-- a dirty number is raised at each copy that the heal will change, before it does
abbrev pub pres_at : (ℕ → Kind → Bool) → Exact → ℕ → Kind → HealPart → ℕ → Bool
pres_at keeps r s Bytes Opening = sink keeps r s
pres_at keeps r s Attrs part = other r s
pres_at keeps r s Names part = holder r.first_views
pres_at keeps r s _ _ = empty

-- the bricks that get the repair of this part of the heal
abbrev pub mends_at : (ℕ → Kind → Bool) → Exact → ℕ → Kind → HealPart → ℕ → Bool
mends_at keeps r s Bytes Finish = empty
mends_at keeps r s Bytes part = sink keeps r s
mends_at keeps r s Attrs part = other r s
mends_at keeps r s Names part = holder r.first_views

-- numbers are taken back at each holder, at the end of the last part
abbrev pub settles_at : Exact → Kind → HealPart → ℕ → Bool
settles_at r Bytes Finish = holder r.first_views
settles_at r Bytes part = empty
settles_at r _ part = holder r.first_views

-- the first Work locks are asked where the Heal lock was granted, the later ones at the bricks of the first looks
abbrev pub locks_at : Exact → HealPart → ℕ → Bool
locks_at r Opening = r.law.healing
locks_at r part = r.first_reached

-- the locked bricks are looked at first, later the same bricks again
abbrev pub looks_at : Exact → HealPart → ℕ → Bool
looks_at r Opening = r.law.held
looks_at r part = r.first_reached

-- the bricks that a step asks, with s as the source
abbrev pub set_of : ℕ → (ℕ → Kind → Bool) → Exact → ℕ → Step → ℕ → Bool
set_of n keeps r s HealLocks = everywhere
set_of n keeps r s WorkLocks = locks_at r r.part
set_of n keeps r s Looks = looks_at r r.part
set_of n keeps r s Reads = reads_at n keeps r s r.law.kind r.part
set_of n keeps r s HealPres = pres_at keeps r s r.law.kind r.part
set_of n keeps r s Mends = mends_at keeps r s r.law.kind r.part
set_of n keeps r s Settles = settles_at r r.law.kind r.part
set_of n keeps r s Unlocks = r.law.held
set_of n keeps r s HealUnlocks = r.law.healing
set_of n keeps r s _ = empty

-- the step is behind the actor, or it is the present one and over
abbrev pub passed : ℕ → (ℕ → Kind → Bool) → Exact → ℕ → Step → Bool
passed n keeps r s step = nat_lt (rank step) (rank r.step) || over n (set_of n keeps r s step) (asked_in r step)

-- the brick is the lowest that the step has not asked, and no later step has begun
abbrev pub turn : ℕ → (ℕ → Kind → Bool) → Exact → ℕ → Step → ℕ → Bool
turn n keeps r s step b = nat_le (rank r.step) (rank step) && set_of n keeps r s step b && not (asked_in r step b) && over b (set_of n keeps r s step) (asked_in r step)

-- the steps before are over
abbrev pub looks_over : ℕ → (ℕ → Kind → Bool) → Exact → ℕ → Bool
looks_over n keeps r s = nat_le 7 (rank r.step) && passed n keeps r s Looks

-- the reads, and all before, are over
abbrev pub reads_over : ℕ → (ℕ → Kind → Bool) → Exact → ℕ → Bool
reads_over n keeps r s = looks_over n keeps r s && passed n keeps r s Reads

-- the Pres, and all before, are over
abbrev pub pres_over : ℕ → (ℕ → Kind → Bool) → Exact → ℕ → Bool
pres_over n keeps r s = reads_over n keeps r s && passed n keeps r s HealPres

-- the Mends, and all before, are over
abbrev pub mends_over : ℕ → (ℕ → Kind → Bool) → Exact → ℕ → Bool
mends_over n keeps r s = pres_over n keeps r s && passed n keeps r s Mends

-- the settling, and all before, is over
abbrev pub settles_over : ℕ → (ℕ → Kind → Bool) → Exact → ℕ → Bool
settles_over n keeps r s = mends_over n keeps r s && passed n keeps r s Settles

-- the looks let the heal go on with s as its source
abbrev pub goes_on_at : ℕ → (ℕ → Kind → Bool) → Exact → ℕ → HealPart → Bool
goes_on_at n keeps r s Opening = is_most n r.first_reached && is_most n (holder r.first_views) && any n (λ x. shows_number r.law.kind (r.first_views x))
goes_on_at n keeps r s Piece = unaccused n r.law.kind r.views s
goes_on_at n keeps r s Finish = unaccused n r.law.kind r.views s && all n (λ x. not (sink keeps r s x) || (len_of (r.views x) == len_of (r.views s)))

-- s is good by the first looks, and the present ones let the heal go on
abbrev pub goes_on : ℕ → (ℕ → Kind → Bool) → Exact → ℕ → Bool
goes_on n keeps r s = good n keeps r.law.kind r.first_views s && goes_on_at n keeps r s r.part

-- all of one kind of the object: the first Work lock says the kind of the heal
abbrev pub is_whole : Area → ℕ → Bool
is_whole area g = same_area (whole_area g Bytes) area || same_area (whole_area g Attrs) area || same_area (whole_area g Names) area

-- after the Heal locks, a majority of them granted, the Work locks of a whole kind of the object
abbrev pub is_next : ℕ → Exact → ℕ → Area → Bool
is_next n r s area = nat_le (rank r.step) (rank HealLocks) && over n everywhere (asked_in r HealLocks) && is_most n r.law.healing && is_whole area r.law.object

-- after a part of a data heal comes the next piece below the length of the source, or the finish
abbrev pub after_unlocks : ℕ → Exact → Area → ℕ → Bool
after_unlocks n r area s =
    same_step r.step Unlocks && not (busy n r.law) && same_kind r.law.kind Bytes
    && (if nat_lt r.upto (len_of (r.first_views s)) then same_area (piece_area r.law.object r.upto) area else same_area (whole_area r.law.object Bytes) area)

-- the lowest brick of the set that was not asked
abbrev pub is_lowest : (ℕ → Bool) → (ℕ → Bool) → ℕ → Bool
is_lowest set asked b = set b && not (asked b) && over b set asked

-- a Work lock of this part, at the lowest brick that was not granted or left out
abbrev pub may_heal_work : ℕ → (ℕ → Kind → Bool) → Exact → ℕ → ℕ → Area → Bool
may_heal_work n keeps r s b area =
    if same_step r.step WorkLocks then is_area r.law.area area && is_lowest (locks_at r r.part) r.asked b
    else if same_step r.step HealLocks then is_next n r s area && is_lowest r.law.healing empty b
    else after_unlocks n r area s && not (is_finish r.part) && is_lowest r.first_reached empty b

-- the holders that the heal changes: what is held against them is taken back
abbrev pub changed : Exact → ℕ → Kind → ℕ → Bool
changed r s Names c = holder r.first_views c
changed r s _ c = other r s c

-- the heal raised the dirty number there
abbrev pub raised : (ℕ → Kind → Bool) → Exact → ℕ → Kind → ℕ → Bool
raised keeps r s Bytes b = sink keeps r s b
raised keeps r s Attrs b = other r s b
raised keeps r s Names b = true

-- the numbers that the settling takes back at b are these
abbrev pub takes : ℕ → (ℕ → Kind → Bool) → Exact → ℕ → ℕ → Kind → Marks → Option View → Bool
takes n keeps r s b kind less None = false
takes n keeps r s b kind less (Some view) =
    all 5 (λ c. slice_index less.pending c == (if nat_lt c n && changed r s kind c then slice_index (view_marks view kind).pending c else 0))
    && (less.dirty == (if all n (holder r.first_views) then (view_marks view kind).dirty + (if raised keeps r s kind b then 1 else 0) else 0))

-- two positions are the same, or neither is there
abbrev pub same_read : Option ℕ → Option ℕ → Bool
same_read None None = true
same_read (Some a) (Some b) = a == b
same_read _ _ = false

-- the reads that a merge names are those of this part, brick by brick
abbrev pub same_reads : (ℕ → Option ℕ) → ℕ → Seq (Option ℕ) → Bool
same_reads reads k [] = true
same_reads reads k (x ∷ xs) = same_read (reads k) x && same_reads reads (suc k) xs

-- a move after the looks, on this heal's object and kind
abbrev pub onward : ℕ → (ℕ → Kind → Bool) → Exact → ℕ → ℕ → Kind → Bool
onward n keeps r s g kind = goes_on n keeps r s && looks_over n keeps r s && (g == r.law.object) && same_kind kind r.law.kind

-- the repair of this part: with the length of the source, or the positions of its reads
abbrev pub may_mend : ℕ → (ℕ → Kind → Bool) → Exact → ℕ → Repair → Bool
may_mend n keeps r s (CutTo g len) = onward n keeps r s g.0 Bytes && is_opening r.part && (len == len_of (r.first_views s))
may_mend n keeps r s (Copy g at some read) = onward n keeps r s g.0 Bytes && not (is_opening r.part) && (at == r.upto) && (some == span) && same_read (r.reads s) (Some read)
may_mend n keeps r s (PutAttrs g read) = onward n keeps r s g.0 Attrs && same_read (r.reads s) (Some read)
may_mend n keeps r s (PutNames g reads) = onward n keeps r s g.0 Names && same_reads r.reads 0 reads && some_read reads

-- whether a heal may ask this, if s is its source
abbrev pub may_heal : ℕ → (ℕ → Kind → Bool) → Exact → ℕ → ℕ → Request → Bool
may_heal n keeps r s b (Lock Heal area) = same_step r.step HealLocks && turn n keeps r s HealLocks b && same_area (heal_area r.law.object) area
may_heal n keeps r s b (Lock Work area) = may_heal_work n keeps r s b area
may_heal n keeps r s b (Look g) = same_step r.step Looks && turn n keeps r s Looks b && (g.0 == r.law.object)
may_heal n keeps r s b (ReadBytes g at len) = onward n keeps r s g.0 Bytes && turn n keeps r s Reads b && (at == r.upto) && (len == span)
may_heal n keeps r s b (ReadAttrs g) = onward n keeps r s g.0 Attrs && turn n keeps r s Reads b
may_heal n keeps r s b (List g) = onward n keeps r s g.0 Names && turn n keeps r s Reads b
may_heal n keeps r s b (Pre g kind) = onward n keeps r s g.0 kind && reads_over n keeps r s && turn n keeps r s HealPres b
may_heal n keeps r s b (Mend repair) = may_mend n keeps r s repair && pres_over n keeps r s && turn n keeps r s Mends b
may_heal n keeps r s b (Settle g kind less) = onward n keeps r s g.0 kind && mends_over n keeps r s && turn n keeps r s Settles b && takes n keeps r s b kind less (r.first_views b)
may_heal n keeps r s b (Unlock Work area) = goes_on n keeps r s && settles_over n keeps r s && turn n keeps r s Unlocks b && is_area r.law.area area
may_heal n keeps r s b (Unlock Heal area) =
    goes_on n keeps r s && settles_over n keeps r s && not (busy n r.law) && not (same_kind r.law.kind Bytes && not (is_finish r.part)) && turn n keeps r s HealUnlocks b && same_area (heal_area r.law.object) area
may_heal n keeps r s b _ = false
