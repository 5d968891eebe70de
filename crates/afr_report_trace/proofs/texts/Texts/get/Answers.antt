use Rattle.std.proofs.Common.{◌∙◌}
use Rattle.afr_report_trace.proofs.TextLemmas.{piece}
use Rattle.afr_report_trace.proofs.texts.Texts.get.Goals as goal

pub piece-requires : goal.piece-requires
piece-requires c =
    let p = piece c.self.inside.bytes.items c.self.inside.cuts.items c.args.self.now c.args.number c.self.invariant c.self.view_is c.requires in
    rw (c.as_slice.ensures.value, c.as_slice-2.ensures.value) (record { next = p.next; from = p.from; to = p.to })

pub returns : goal.returns
returns c =
    let p = piece c.self.inside.bytes.items c.self.inside.cuts.items c.args.self.now c.args.number c.self.invariant c.self.view_is c.requires in
    rw (c.as_slice.ensures.value, c.as_slice-2.ensures.value) at c.piece.ensures ∙ p.is
