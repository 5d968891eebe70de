-- No name leads to its own directory: a file is no directory, and a name of a directory leads to a newer one.
use Rattle.std.proofs.Common.{◌≡◌, ℕ, ◌<◌, ◌≤◌, ◌==◌, Bool, false, List, Some, length, refl, arith}
use Rattle.afr_base.specs.declared.ids.Gfid.{Gfid}
use Rattle.afr_base.specs.declared.ids.NameId.{NameId}
use Rattle.afr_base.specs.declared.ids.What.{What}
use Rattle.afr_base.specs.declared.ids.What.TheVariants.{File, Dir}
use Rattle.afr_lines.specs.declared.line.Line.{Line}
use Rattle.afr_object.specs.declared.entry.Entry.{Entry}
use Rattle.afr_plan.specs.declared.plan.Plan.{Plan}
use Rattle.afr_model.specs.Following.{Follows}
use Rattle.afr_model.specs.Honest.{Honest}
use Rattle.afr_model.specs.Tables.{entry_at, holds}
use Rattle.afr_law.proofs.Model.Kinds.{one_kind}
use Rattle.afr_law.specs.Exactly.{IsLawfulExactly}
use Rattle.afr_law.specs.ModelKinds.{Now}
use Rattle.afr_law.proofs.Alike.Units.{differ_over}
use Rattle.afr_law_names.proofs.ApartLemmas.{files_elsewhere}
use Rattle.afr_law_names.proofs.Descent.Entries.{leads_down}

pub elsewhere : (p : Plan) (log : List Line) → p.shape.n ≤ 5 → length log ≤ 4000000 → Honest p log → IsLawfulExactly p log → (crawl : Bool) → Follows crawl p log → (b : ℕ) (dir : Gfid) (name : NameId) (e : Entry) → entry_at dir name (holds p log b) ≡ Some e
    → (e.gfid.0 == dir.0) ≡ false
elsewhere p log five short honest lawful crawl follows b dir name e is = go e.what refl
  where
    go : (what : What) → e.what ≡ what → (e.gfid.0 == dir.0) ≡ false
    go File file = files_elsewhere one_kind p log b dir name e five short honest lawful is file
    go Dir directory = differ_over e.gfid.0 dir.0 (leads_down p log (record { few = five; short = short; crawl = crawl; follows = follows; honest = honest; lawful = lawful }) (holds p log b) (Now b refl) dir name e is directory)
