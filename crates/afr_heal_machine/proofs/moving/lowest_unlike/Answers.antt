use Rattle.std.proofs.Common.{◌≡◌, ℕ, ◌==◌, ◌&&◌, ◌∙◌, List, Bool, ap, filter, not, sym, slice_get}
use Rattle.afr_base.proofs.OfFive.{picked_is}
use Rattle.afr_base.specs.Bricks.{all_five}
use Rattle.afr_base.specs.Five.{first_in}
use Rattle.afr_choice.specs.Looks.{view_at}
use Rattle.afr_choice.specs.Verdict.{is_copy}
use Rattle.afr_discipline.specs.Turns.{brick_of}
use Rattle.afr_model.specs.Moved.{len_in}
use Rattle.afr_heal_machine.proofs.ChoiceLemmas.{filter_minus, first_is}
use Rattle.afr_heal_machine.proofs.moving.lowest_unlike.Goals as goal

pub returns : goal.returns
returns c =
    let test : ℕ → Bool =
    (λ x. is_copy c.args.register.now.shape c.args.register.now.seen c.args.kind x && not (x == c.args.source.0) && not (len_in (view_at x c.args.register.now.looked) == len_in (view_at c.args.source.0 c.args.register.now.looked))) in
    let set : c.of_five-sinks.result ≡ filter test all_five =
    rw (c.of_five-sinks.ensures, c.is_unlike.ensures, c.is_unlike-2.ensures, c.is_unlike-3.ensures, c.is_unlike-4.ensures, c.is_unlike-5.ensures) (picked_is test) in
    c.first.ensures
    ∙ ap first_in set
    ∙ first_is (filter test all_five)
    ∙ ap (λ (xs : List ℕ). brick_of (slice_get xs 0)) (sym (filter_minus (λ x. not (len_in (view_at x c.args.register.now.looked) == len_in (view_at c.args.source.0 c.args.register.now.looked))) (is_copy c.args.register.now.shape c.args.register.now.seen c.args.kind) c.args.source.0 all_five))
