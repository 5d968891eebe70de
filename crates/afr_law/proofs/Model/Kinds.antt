-- In honest and lawful logs of the model a gfid names objects of one kind.
use Rattle.std.proofs.Common.{◌≡◌, ℕ, refl, sym, ◌∙◌, ap, List, length, Option, None, Some}
use Rattle.afr_base.specs.declared.ids.Gfid.{Gfid}
use Rattle.afr_base.specs.declared.ids.NameId.{NameId}
use Rattle.afr_base.specs.declared.ids.What.TheVariants.{Dir}
use Rattle.afr_lines.specs.declared.line.Line.{Line}
use Rattle.afr_model.specs.Cells.{IsEntry}
use Rattle.afr_model.specs.Honest.{fault_in}
use Rattle.afr_model.specs.Tables.{entry_at, entry_in, holds}
use Rattle.afr_object.specs.Tables.{Table, copy_at, root, view_of}
use Rattle.afr_object.specs.declared.entry.Entry.{Entry as NameEntry}
use Rattle.afr_object.specs.declared.entry.View.{View}
use Rattle.afr_object.specs.Object.{Object}
use Rattle.afr_plan.specs.declared.plan.Plan.{Plan}
use Rattle.afr_law.proofs.Model.Dirty.{seen_copy}
use Rattle.afr_law.proofs.Model.Discipline.{exactly_below}
use Rattle.afr_law_tables.proofs.Opening.{opening_root}
use Rattle.afr_law.specs.Beginning.{start_of}
use Rattle.afr_law.proofs.Model.Settles.{all_honest, take_within, within_before}
use Rattle.afr_law.proofs.Model.SoundLog.{LawfulBelow}
use Rattle.afr_law.proofs.Model.Tables.{all_same}
use Rattle.afr_law_tables.proofs.Values.{code_of}
use Rattle.afr_model_moves.specs.Cells.{Entry, entry_code, what_code}
use Rattle.afr_law_tables.specs.Codes.{code_in, kind_code, kind_in, value_code}
use Rattle.afr_law.specs.Exactly.{name_bound}
use Rattle.afr_model_moves.specs.Honest.{Honest}
use Rattle.afr_law.specs.ModelKinds.{Before, IsOneKind, ModelNextLooks, ModelOneKind, Named, Now, SaysKind, Top, WasTable}
use Rattle.afr_law.proofs.Safety.Objects.{entry_born, from_values, kind_born}
use Rattle.afr_model_moves.specs.Past.{Log, born, kind_at, value}
use Rattle.afr_model_moves.specs.Positions.{by_position}
use Rattle.afr_model_moves.proofs.ByPosition.{past_whole}
use Rattle.afr_model_moves.proofs.Tests.{what_same, what_some}

-- the tables of a brick at a moment, by positions
record Moment (p : Plan) (n : ℕ) (L : Log) (t : Table) : Type 0 where
  k : ℕ
  b : ℕ
  kinds : (g : ℕ) → kind_at (start_of p n) L k b g ≡ kind_in t g
  entries : (d m : ℕ) → value (start_of p n) L k b (Entry d m) ≡ code_in t (Entry d m)

module _ (p : Plan) (n : ℕ) (log : List Line) (below : LawfulBelow p n log) (honest : Honest (start_of p n) (fault_in p.faults) (by_position log)) where
  -- the log by its positions
  abbrev L : Log
  L = by_position log

  moment : (t : Table) → WasTable p log t → Moment p n L t
  moment t (Now b e) = (let same = (all_same p n L log (past_whole log) below).0 in record {
    k = length log;
    b = b;
    kinds = λ g. same.kinds b g ∙ ap (λ (u : Table). kind_in u g) (sym e);
    entries = λ d m. same.codes b (Entry d m) refl (λ k. absurd (cc k)) ∙ ap (λ (u : Table). code_in u (Entry d m)) (sym e);
  })
  moment t (Before k b low e) = (let same = (all_same p n L log (past_whole log) below).1 k low in record {
    k = k;
    b = b;
    kinds = λ g. same.kinds b g ∙ ap (λ (u : Table). kind_in u g) (sym e);
    entries = λ d m. same.codes b (Entry d m) refl (λ k. absurd (cc k)) ∙ ap (λ (u : Table). code_in u (Entry d m)) (sym e);
  })

  -- a copy is of the kind that its gfid was made with
  copy_born : (t : Table) → Moment p n L t → (g : Gfid) (o : Object) → copy_at g t ≡ Some o → born (start_of p n) L g.0 ≡ what_code o.what
  copy_born t m g o e =
      let w = what_some o.what in
      kind_born (start_of p n) (fault_in p.faults) L honest m.k m.b g.0 w.0 (m.kinds g.0 ∙ ap kind_code e ∙ w.1) ∙ sym w.1

  -- and so is what an entry says
  entry_says : (t : Table) → Moment p n L t → (dir : Gfid) (name : NameId) (x : NameEntry) → entry_at dir name t ≡ Some x → born (start_of p n) L x.gfid.0 ≡ what_code x.what
  entry_says t m dir name x e =
      entry_born (start_of p n) (fault_in p.faults) L honest m.k dir.0 name.0 x.gfid.0 x.what (value (start_of p n) L m.k m.b (Entry dir.0 name.0))
      (from_values (start_of p n) L (Entry dir.0 name.0) m.k m.k m.b) (m.entries dir.0 name.0 ∙ there (copy_at dir t) e)
    where
      there : (o : Option Object) → entry_in name o ≡ Some x → code_of (Entry dir.0 name.0) o ≡ entry_code x.gfid.0 x.what
      there None e = absurd (cc e)
      there (Some o) e = ap (λ (y : Option NameEntry). value_code (IsEntry y)) e

  root_born : born (start_of p n) L 1 ≡ 2
  root_born = rw (opening_root p.files) refl

  one_kind_by : IsOneKind p log
  one_kind_by = record {
    copies = λ t u s v g o q d e. what_same o.what q.what (sym (copy_born t (moment t s) g o d) ∙ copy_born u (moment u v) g q e);
    entries = λ t u s v dir name x o d e. what_same o.what x.what (sym (copy_born u (moment u v) x.gfid o e) ∙ entry_says t (moment t s) dir name x d);
    names = λ t u s v dir other name also x y d e same. what_same x.what y.what (sym (entry_says t (moment t s) dir name x d) ∙ ap (λ (g : Gfid). born (start_of p n) L g.0) same ∙ entry_says u (moment u v) other also y e);
    top = λ t s o e. what_same o.what Dir (sym (copy_born t (moment t s) root o e) ∙ root_born);
  }

-- ---- in the words of the model
pub one_kind : ModelOneKind
one_kind p log five short honest lawful = one_kind_by p n log below (all_honest p n five log below honest (within_before p log (take_within p n five log below honest)))
  where
    n : ℕ
    n = name_bound p

    below : LawfulBelow p n log
    below = exactly_below p log five short honest lawful

pub next_looks : ModelNextLooks
next_looks p log a b g what view took five short honest lawful says said = shown says
  where
    kinds : IsOneKind p log
    kinds = one_kind p log five short honest lawful

    seen : (o : Object) × (copy_at g (holds p log b.0) ≡ Some o) × (view ≡ view_of o)
    seen = seen_copy _ _ (copy_at g (holds p log b.0)) view took said

    shown : SaysKind p log g what → view.what ≡ what
    shown (Named t dir name stood there) = ap (λ (v : View). v.what) seen.2 ∙ kinds.entries t (holds p log b.0) stood (Now b.0 refl) dir name (record { gfid = g; what = what }) seen.0 there seen.1
    shown (Top is dir) = ap (λ (v : View). v.what) seen.2 ∙ kinds.top (holds p log b.0) (Now b.0 refl) seen.0 (ap (λ (h : Gfid). copy_at h (holds p log b.0)) (sym is) ∙ seen.1) ∙ sym dir
