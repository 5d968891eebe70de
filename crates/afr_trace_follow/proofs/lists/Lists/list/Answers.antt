use Rattle.std.proofs.Common.{◌∙◌, ◌-◌, arith, length, refl, reverse}
use Rattle.std.proofs.lemmas.Option.{slice_get_read}
use Rattle.afr_trace_follow.proofs.ListLemmas.{given_at}
use Rattle.afr_trace_follow.proofs.lists.Lists.list.Goals as goal

pub returns : goal.returns
returns c =
    c.as_slice.ensures
    ∙ given_at c.args.plan.now c.args.a.0 (reverse c.args.log.now) c.args.self.now.given.items c.index-list.result.now c.requires.healer c.requires.lists.given
    (slice_get_read c.args.self.now.given.items (length c.args.self.now.given.items) (c.args.a.0 - 17) c.index-list.result.now refl (omega (arith, c.requires.healer, c.requires.known, c.requires.lists.given.three)) c.index-list.ensures)
