use Rattle.std.proofs.Common.{ap, ◌∙◌}
use Rattle.std.specs.Prelude.{◌++◌, ◌∷◌, [], length}
use Rattle.afr_log.specs.declared.packed.Packed.TheVariants as entry
use Rattle.afr_log.specs.Log.{Logged}
use Rattle.afr_log.proofs.Entries.{kept_there, kept_lines}
use Rattle.afr_log.proofs.log.Log.keep.Goals as goal

pub invariant_of-self : goal.invariant_of-self
invariant_of-self c = kept_there c.self.inside.kept.items c.args.line c.self.inside.packed.items _ _ c.push_line.ensures (c.push_entry.ensures.items ∙ ap (λ n. c.self.inside.packed.items ++ entry.Kept n ∷ []) (ap length c.as_slice-place.ensures.value)) c.self.invariant

pub returns : goal.returns
returns c =
    kept_lines c.self.inside.kept.items c.args.line c.self.inside.packed.items _ _ c.push_line.ensures (c.push_entry.ensures.items ∙ ap (λ n. c.self.inside.packed.items ++ entry.Kept n ∷ []) (ap length c.as_slice-place.ensures.value)) c.self.invariant
    ∙ ap (λ (l : Logged). l.items ++ c.args.line ∷ []) c.self.view_is
