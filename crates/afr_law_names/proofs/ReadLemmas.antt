-- What a line of a work was given is what the work has read in the words of the discipline.
use Rattle.std.proofs.Common.{◌≡◌, ℕ, ◌≤◌, true, false, true≢false, inl, inr, refl, ◌∙◌, ap, subst, arith, List, ◌∷◌, length, Some}
use Rattle.std.proofs.lemmas.Bool.{cases_lt}
use Rattle.std.proofs.lemmas.Bool.Decides.{nat_tests}
use Rattle.afr_base.specs.declared.ids.Gfid.{Gfid}
use Rattle.afr_base.specs.declared.ids.NameId.{NameId}
use Rattle.afr_base.specs.declared.ids.What.{What}
use Rattle.afr_law.proofs.Model.SoundLog.{LawfulBelow}
use Rattle.afr_law.proofs.Model.Tables.{all_same}
use Rattle.afr_law.proofs.Safety.Agree.{value_same}
use Rattle.afr_law.specs.Beginning.{start_of}
use Rattle.afr_lines.specs.Work.{ends_work}
use Rattle.afr_lines.specs.declared.answer.Told.TheVariants.{Given}
use Rattle.afr_lines.specs.declared.line.Line.{Line}
use Rattle.afr_lines.specs.declared.line.Line.TheVariants.{End}
use Rattle.afr_lines.specs.declared.request.Request.TheVariants.{ReadName}
use Rattle.afr_model.specs.Cells.{IsEntry, Name, value_of}
use Rattle.afr_model_moves.proofs.ByPosition.{newest_at, older_at, past_whole}
use Rattle.afr_model_moves.specs.Cells.{Entry}
use Rattle.afr_model_moves.specs.Discipline.{EndsWork, HasRead}
use Rattle.afr_model_moves.specs.Lines.{ask_by}
use Rattle.afr_model_moves.specs.Past.{Beginning, value}
use Rattle.afr_model_moves.specs.Positions.{by_position}
use Rattle.afr_plan.specs.declared.plan.Plan.{Plan}
use Rattle.afr_law_tables.specs.Codes.{value_code}

none_ends : (a : ℕ) (line : Line) → ends_work a line ≡ false → EndsWork a (Some line) → ⊥
none_ends a (End x reply) e k = absurd (grind (arith, nat_tests))
none_ends a line e k = k

module _ (p : Plan) (n a : ℕ) (g : Gfid) (what : What) where
  abbrev files : Beginning
  files = start_of p n

  -- the present work has read an entry of this gfid and kind
  abbrev pub HasReadBy : List Line → Type 0
  HasReadBy log = HasRead files (by_position log) (length log) a g.0 what

  pub shown_code : (older : List Line) → LawfulBelow p n older → (b d m : ℕ) → value files (by_position older) (length older) b (Entry d m) ≡ value_code (value_of p older b (Name (record { 0 = d }) (record { 0 = m })))
  shown_code older lawful b d m = (all_same p n (by_position older) older (past_whole older) lawful).0.codes b (Entry d m) refl (λ k. absurd (cc k))

  -- the values at a position are those before one more line
  pub value_before : (line : Line) (older : List Line) (t : ℕ) → t ≤ length older → (b d m : ℕ) → value files (by_position (line ∷ older)) t b (Entry d m) ≡ value files (by_position older) t b (Entry d m)
  value_before line older t low b d m = value_same (by_position (line ∷ older)) (by_position older) (length older) (older_at line older) files b (Entry d m) t low

  -- the newest line read it
  pub read_now : (line : Line) (older : List Line) → LawfulBelow p n older → (b : ℕ) (dir : Gfid) (name : NameId) → line ≡ ask_by a b (ReadName dir name) Given true
      → value_of p older b (Name dir name) ≡ IsEntry (Some (record { gfid = g; what = what })) → HasReadBy (line ∷ older)
  read_now line older lawful b dir name is showed = record {
    r = length older;
    b = b;
    dir = dir.0;
    name = name.0;
    past = omega arith;
    is = here;
    same_work = λ u from low ends. subst (EndsWork a) (ap (by_position (line ∷ older)) (omega (arith, from, low)) ∙ here) ends;
    gave = value_before line older (length older) (omega arith) b dir.0 name.0 ∙ shown_code older lawful b dir.0 name.0 ∙ ap value_code showed;
  }
    where
      here : by_position (line ∷ older) (length older) ≡ Some (ask_by a b (ReadName dir name) Given true)
      here = newest_at line older ∙ ap Some is

  -- an older one did, and the work goes on
  pub read_before : (line : Line) (older : List Line) → ends_work a line ≡ false → HasReadBy older → HasReadBy (line ∷ older)
  read_before line older on w = record {
    r = w.r;
    b = w.b;
    dir = w.dir;
    name = w.name;
    past = (let p = w.past in omega (arith, p));
    is = older_at line older w.r w.past ∙ w.is;
    same_work = λ u from low ends. elim (cases_lt u (length older)) [
      | inl early ↦ w.same_work u from early (subst (EndsWork a) (older_at line older u early) ends)
      | inr late ↦ none_ends a line on (subst (EndsWork a) (ap (by_position (line ∷ older)) (omega (arith, late, low)) ∙ newest_at line older) ends)
    ];
    gave = value_before line older w.r (let p = w.past in omega (arith, p)) w.b w.dir w.name ∙ w.gave;
  }
