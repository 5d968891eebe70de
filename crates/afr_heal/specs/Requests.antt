-- What each step of a heal asks of a brick.
use Rattle.std.specs.Prelude.{ℕ, ◌∷◌, if◌then◌else◌, [], Bool, None, Option, Some, nat_lt}
use Rattle.afr_base.specs.declared.ids.Gfid.{Gfid}
use Rattle.afr_base.specs.declared.ids.Kind.{Kind}
use Rattle.afr_base.specs.declared.ids.Kind.TheVariants.{Attrs, Bytes, Names}
use Rattle.afr_discipline.specs.Turns.{less_in}
use Rattle.afr_lines.specs.declared.request.Area.{Area}
use Rattle.afr_lines.specs.declared.request.Request.{Request}
use Rattle.afr_lines.specs.declared.request.Request.TheVariants.{List, Lock, Look, Mend, Pre, ReadAttrs, ReadBytes, Settle, Unlock}
use Rattle.afr_model_moves.specs.Register.{Exact, HealLocks, HealPart, HealPres, Looks, Mends, Opening, Reads, Settles, Step, Unlocks, WorkLocks, len_of, piece_area, span, whole_area}
use Rattle.afr_model_moves.specs.Rules.{heal_area}
use Rattle.afr_object.specs.declared.change.Repair.{Repair}
use Rattle.afr_object.specs.declared.change.Repair.TheVariants.{Copy, CutTo, PutAttrs, PutNames}
use Rattle.afr_lines.specs.declared.lock.Domain.TheVariants.{Heal, Work}

-- the area that is there, or all of the kind
abbrev pub area_or : Option Area → Area → Area
area_or None whole = whole
area_or (Some area) whole = area

-- the area of this part, as the register has it; the first Work lock is of all of the kind
abbrev pub area_now : Exact → Gfid → Kind → Area
area_now r g kind = area_or r.law.area (whole_area g.0 kind)

-- the next part of a heal of bytes: a piece below the length of the source, or the finish
abbrev pub next_area : Exact → ℕ → Gfid → Area
next_area r s g = if nat_lt r.upto (len_of (r.first_views s)) then piece_area g.0 r.upto else whole_area g.0 Bytes

-- the position of a read, or 0 where there is none
abbrev pub position : Option ℕ → ℕ
position None = 0
position (Some t) = t

-- what is read of an object, by the kind of the heal
abbrev pub read_in : Exact → Gfid → Kind → Request
read_in r g Bytes = ReadBytes g r.upto span
read_in r g Attrs = ReadAttrs g
read_in r g Names = List g

-- what a copy is given: first its length, then the bytes of each piece; all attributes, or all names
abbrev pub repair_in : Exact → ℕ → Gfid → Kind → HealPart → Repair
repair_in r s g Bytes Opening = CutTo g (len_of (r.first_views s))
repair_in r s g Bytes part = Copy g r.upto span (position (r.reads s))
repair_in r s g Attrs part = PutAttrs g (position (r.reads s))
repair_in r s g Names part = PutNames g (r.reads 0 ∷ r.reads 1 ∷ r.reads 2 ∷ r.reads 3 ∷ r.reads 4 ∷ [])

-- the request of a step at brick b, if s is the source
abbrev pub request_in : ℕ → (ℕ → Kind → Bool) → Exact → ℕ → Gfid → Kind → Step → ℕ → Request
request_in n keeps r s g kind HealLocks b = Lock Heal (heal_area g.0)
request_in n keeps r s g kind WorkLocks b = Lock Work (area_now r g kind)
request_in n keeps r s g kind Looks b = Look g
request_in n keeps r s g kind Reads b = read_in r g kind
request_in n keeps r s g kind HealPres b = Pre g kind
request_in n keeps r s g kind Mends b = Mend (repair_in r s g kind r.part)
request_in n keeps r s g kind Settles b = Settle g kind (less_in n keeps r s kind b)
request_in n keeps r s g kind Unlocks b = Unlock Work (area_now r g kind)
request_in n keeps r s g kind step b = Unlock Heal (heal_area g.0)
