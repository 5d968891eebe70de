use Rattle.std.proofs.Common.{◌∙◌, List, ap, length, reverse, ℕ}
use Rattle.afr_object.specs.Repairs.{Nothing}
use Rattle.afr_trace_tally.specs.Contents.{contents_seen}
use Rattle.afr_trace_tally.proofs.TableLemmas.{bytes_told, short_told}
use Rattle.afr_trace_tally.proofs.tally.Tally.read_len.Goals as goal

pub len_in-requires : goal.len_in-requires
len_in-requires c =
    short_told c.args.self.now.shown.items c.as_slice.result.now c.args.position (contents_seen c.in-Some.kept.now) c.as_slice.ensures.value c.requires.tally.kept c.in-Some.ensures

pub returns-in-Some : goal.returns-in-Some
returns-in-Some c =
    c.len_in.ensures
    ∙ ap (λ (bytes : List ℕ). length bytes)
    (bytes_told c.args.plan.now (reverse c.args.log.now) c.args.self.now.shown.items c.as_slice.result.now c.args.position (contents_seen c.in-Some.kept.now) c.as_slice.ensures.value c.requires.tally.shown c.in-Some.ensures)

pub returns-in-None : goal.returns-in-None
returns-in-None c =
    ap (λ (bytes : List ℕ). length bytes)
    (bytes_told c.args.plan.now (reverse c.args.log.now) c.args.self.now.shown.items c.as_slice.result.now c.args.position Nothing c.as_slice.ensures.value c.requires.tally.shown c.in-None.ensures)
