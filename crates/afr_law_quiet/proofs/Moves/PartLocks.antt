-- The Work locks of the later parts of a heal of bytes.
use Rattle.std.proofs.Common.{◌≡◌, ℕ, ◌≤◌, Bool, true, false, ◌⊎◌, inl, inr, refl, sym, ap, ◌∙◌, subst, arith}
use Rattle.std.specs.Prelude.{Option, Some, if◌then◌else◌, nat_lt}
use Rattle.afr_base.specs.declared.ids.Kind.{Kind}
use Rattle.afr_base.specs.declared.ids.Kind.TheVariants.{Attrs, Bytes, Names}
use Rattle.afr_lines.specs.Areas.{object_of_area}
use Rattle.afr_lines.specs.Overlap.{same_area}
use Rattle.afr_lines.specs.declared.request.Area.{Area}
use Rattle.afr_lines.specs.declared.request.Area.TheVariants.{Name, Range}
use Rattle.afr_lines.specs.declared.request.Request.TheVariants.{Lock}
use Rattle.afr_lines.specs.declared.lock.Domain.TheVariants.{Work as WorkDomain}
use Rattle.afr_model_moves.proofs.AreaLemmas.{same_area_is}
use Rattle.afr_model_moves.specs.Heal.{MayHeal}
use Rattle.afr_model_moves.specs.Note.{next_part}
use Rattle.afr_model_moves.specs.Register.{Exact, Finish, HealPart, Opening, Piece, len_of, piece_area, rank, whole_area}
use Rattle.afr_model_moves.specs.Rules as weak
use Rattle.afr_plan.specs.declared.plan.Plan.{Plan}
use Rattle.afr_law_tables.specs.Codes.{kept_by}
use Rattle.afr_law.proofs.Discipline.StagesAlong.{StageOf}
use Rattle.afr_law.proofs.Heals.Areas.{AreasIn, part_area, piece_apart}
use Rattle.afr_law.proofs.Heals.Conditions.{Resumes, Starts, Waits, WorkPlace, work_place}

-- the object of an area
area_of : (area : Area) → (object_of_area area).0 ≡ weak.area_object area
area_of (Range g from to) = refl
area_of (Name g name) = refl

-- a Work lock of a later part is on the heal's object, and in a piece isn't all of its bytes
pub part_locked : (p : Plan) (r : Exact) (b : ℕ) (area : Area) → AreasIn r r.law → StageOf r → MayHeal p.shape.n (kept_by p) r b (Lock WorkDomain area) → (r.part ≡ Opening → ⊥) ⊎ (7 ≤ rank r.step)
    → ((object_of_area area).0 ≡ r.law.object) × (next_part r area ≡ Piece → same_area (whole_area r.law.object Bytes) area ≡ false)
part_locked p r b area areas stage m later = go (work_place p.shape.n (kept_by p) r m.source b area m.allowed)
  where
    part_object : (kind : Kind) (heal_part : HealPart) → weak.area_object (part_area r.law.object kind r.upto heal_part) ≡ r.law.object
    part_object kind Piece = refl
    part_object Bytes Opening = refl
    part_object Attrs Opening = refl
    part_object Names Opening = refl
    part_object Bytes Finish = refl
    part_object Attrs Finish = refl
    part_object Names Finish = refl

    whole_piece : (kind : Kind) (heal_part : HealPart) → heal_part ≡ Piece → same_area (whole_area r.law.object Bytes) (part_area r.law.object kind r.upto heal_part) ≡ false
    whole_piece kind Piece e = piece_apart r.law.object r.upto
    whole_piece kind Opening e = absurd (cc e)
    whole_piece kind Finish e = absurd (cc e)

    go : WorkPlace p.shape.n (kept_by p) r m.source b area → ((object_of_area area).0 ≡ r.law.object) × (next_part r area ≡ Piece → same_area (whole_area r.law.object Bytes) area ≡ false)
    go (Waits at unmoved own lock new) = (
        let six : rank r.step ≡ 6 = ap rank at in
        let mine : r.law.area ≡ Some (part_area r.law.object r.law.kind r.upto r.part) = areas.here later (omega (arith, six)) in
        let is : part_area r.law.object r.law.kind r.upto r.part ≡ area = same_area_is (part_area r.law.object r.law.kind r.upto r.part) area (subst (λ (o : Option Area). weak.is_area o area ≡ true) mine own) in
        (area_of area ∙ ap weak.area_object (sym is) ∙ part_object r.law.kind r.part, λ e. ap (same_area (whole_area r.law.object Bytes)) (sym is) ∙ whole_piece r.law.kind r.part (sym unmoved ∙ e))
        )
    go (Starts five unmoved lock) = absurd (elim later [ inl l ↦ l (stage.early m.inside (omega (arith, five))).0 | inr far ↦ omega (arith, far, five) ])
    go (Resumes twelve unmoved idle kind unfinished lock next) = (area_of area ∙ part (nat_lt r.upto (len_of (r.first_views m.source))) next, λ e. piece (same_area (whole_area r.law.object Bytes) area) (sym unmoved ∙ e))
      where
        part : (more : Bool) → (if more then same_area (piece_area r.law.object r.upto) area else same_area (whole_area r.law.object Bytes) area) ≡ true → weak.area_object area ≡ r.law.object
        part true e = ap weak.area_object (sym (same_area_is (piece_area r.law.object r.upto) area e))
        part false e = ap weak.area_object (sym (same_area_is (whole_area r.law.object Bytes) area e))

        piece : (whole : Bool) → (if whole then Finish else Piece) ≡ Piece → whole ≡ false
        piece true e = absurd (cc e)
        piece false e = refl
