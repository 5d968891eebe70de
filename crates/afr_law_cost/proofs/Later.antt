-- Each line of a later part up to the end of its looks comes nearer to the end of the heal.
use Rattle.std.proofs.Common.{◌≡◌, ℕ, ◌+◌, ◌*◌, ◌<◌, ◌≤◌, Bool, true, false, refl, ap, arith, Some}
use Rattle.afr_base.specs.Majority.{count_below}
use Rattle.afr_base.specs.declared.ids.Gfid.{Gfid}
use Rattle.afr_base.specs.declared.ids.Kind.{Kind}
use Rattle.afr_heal.proofs.Finding.{turn_new, turn_set}
use Rattle.afr_heal.proofs.StagesForms.{shape, viewed_form}
use Rattle.afr_heal.proofs.StagesWalk.{lock_elim, look_elim}
use Rattle.afr_heal.specs.Answers.{asked_for, begun_at, fits, source_after}
use Rattle.afr_heal.specs.Engine.{Ask, Begins, next_of}
use Rattle.afr_heal.specs.Standing.{AtViews}
use Rattle.afr_lines.specs.declared.answer.Told.{Told}
use Rattle.afr_lines.specs.declared.answer.Told.TheVariants as as_told
use Rattle.afr_lines.specs.declared.request.Area.{Area}
use Rattle.afr_lines.specs.declared.request.Request.TheVariants.{Lock, Look}
use Rattle.afr_model_moves.specs.Register.{Exact, Finish, HealPart, Looks, Opening, Piece, WorkLocks, is_opening}
use Rattle.afr_model_moves.specs.Rules as weak
use Rattle.afr_model_moves.specs.Rules.{Register}
use Rattle.afr_model_moves.specs.Sets.{empty, with, without}
use Rattle.afr_model_moves.specs.Steps.{locks_at, looks_at, turn}
use Rattle.afr_lines.specs.declared.lock.Domain.TheVariants.{Work}
use Rattle.afr_law_cost.specs.Left.{later_rest, left_in, lines_left, parts_of, taken}
use Rattle.afr_law_cost.proofs.Bounds.{bound_part, lines_part}
use Rattle.afr_law_cost.proofs.Counting.{left_falls, left_most}
use Rattle.afr_counting.proofs.Counts.{count_less}
use Rattle.afr_model_moves.proofs.Tests.{with_self, with_more, without_in}
use Rattle.afr_law_cost.proofs.Early.{Nears, as_was, granted_healing, locked_healing}
use Rattle.afr_law_cost.proofs.Looked.{bound_views, looks_not}

module _ (n : ℕ) (keeps : ℕ → Kind → Bool) (pick : (ℕ → Bool) → ℕ) (some : 0 < n) (q : Exact) (s : ℕ) (g : Gfid) (kind : Kind) (area : Area) where
  -- the Work locks
  module _ (part : HealPart) (later : is_opening part ≡ false) where
    abbrev w : Exact
    w = shape q WorkLocks part g kind (Some area)

    locks_first : (part : HealPart) → is_opening part ≡ false → (b : ℕ) → locks_at w part b ≡ true → q.first_reached b ≡ true
    locks_first Opening e b h = absurd (cc e)
    locks_first Piece e b h = h
    locks_first Finish e b h = h

    module _ (b at : ℕ) (l : b < n) (t : turn n keeps w s WorkLocks b ≡ true) where
      abbrev after : Told → Exact
      after told = asked_for n keeps w at b (Lock Work area) told

      here : q.first_reached b ≡ true
      here = locks_first part later b (turn_set n keeps w s WorkLocks b t)

      asked_more : left_in n q.first_reached (with q.asked b) + 1 ≤ left_in n q.first_reached q.asked
      asked_more = left_falls n q.first_reached q.first_reached q.asked (with q.asked b) b (λ x l h. h) (λ x l h. with_more q.asked b x h) l here (turn_new n keeps w s WorkLocks b t) (with_self q.asked b)

      left_told : (told : Told) → fits (Lock Work area) told ≡ true → left_in n q.first_reached (after told).asked + taken (Lock Work area) told ≤ left_in n q.first_reached q.asked
      left_told as_told.Granted f = asked_more
      left_told (as_told.Held owner) f = omega arith
      left_told as_told.Failed f = asked_more
      left_told as_told.NotConnected f = asked_more
      left_told _ f = absurd (cc f)

      healing_told : (told : Told) → fits (Lock Work area) told ≡ true → count_below n (after told).law.healing ≤ count_below n q.law.healing
      healing_told as_told.Granted f = count_less n q.law.healing (weak.granting n w.law area b).healing (λ x l h. as_was (weak.granting n w.law area b).healing q.law.healing (granted_healing n w.law area b) x h)
      healing_told (as_told.Held owner) f = count_less n q.law.healing (weak.locking n w.law area).healing (λ x l h. as_was (weak.locking n w.law area).healing q.law.healing (locked_healing n w.law area) x h)
      healing_told as_told.Failed f = count_less n q.law.healing (weak.locking n w.law area).healing (λ x l h. as_was (weak.locking n w.law area).healing q.law.healing (locked_healing n w.law area) x h)
      healing_told as_told.NotConnected f = count_less n q.law.healing (without (weak.locking n w.law area).healing b) (λ x l h. as_was (weak.locking n w.law area).healing q.law.healing (locked_healing n w.law area) x (without_in (weak.locking n w.law area).healing b x h))
      healing_told _ f = absurd (cc f)

      part_near : (told : Told) → fits (Lock Work area) told ≡ true → lines_left n keeps (after told) (source_after n keeps pick (after told) s) kind + taken (Lock Work area) told ≤ lines_left n keeps w s kind
      part_near told f =
          let h = bound_part n keeps (after told) (source_after n keeps pick (after told) s) kind refl later in
          let k = left_told told f in
          let j = healing_told told f in
          let i = lines_part n keeps w s kind refl refl later in
          sum (lines_left n keeps (after told) (source_after n keeps pick (after told) s) kind) (left_in n q.first_reached (after told).asked) (left_in n q.first_reached q.asked) (parts_of n w s kind)
          (count_below n (after told).law.healing) (count_below n q.law.healing) (taken (Lock Work area) told) (lines_left n keeps w s kind) h k j i
        where
          sum : (l left' left p h' h c m : ℕ) → l ≤ left' + (n + 1) + (2 * n + p + h' + 1) → left' + c ≤ left → h' ≤ h → m ≡ left + (n + 1) + (2 * n + p + h + 1) → l + c ≤ m
          sum l left' left p h' h c m a k j i = omega (arith, a, k, j, i)

    begin_near : Nears n keeps pick some w s g kind Begins
    begin_near st at =
        let h = bound_views n keeps (begun_at n keeps w at g kind) s g kind refl later (st at) in
        let k = left_most n q.first_reached empty in
        let i = lines_part n keeps w s kind refl refl later in
        sum (lines_left n keeps (begun_at n keeps w at g kind) s kind) (left_in n q.first_reached empty) (left_in n q.first_reached q.asked) (later_rest n w s kind) (lines_left n keeps w s kind) h k i
      where
        sum : (l left' left rest m : ℕ) → l ≤ left' + rest → left' ≤ n → m ≡ left + (n + 1) + rest → l + 1 ≤ m
        sum l left' left rest m h k i = omega (arith, h, k, i)

    pub near_part : Nears n keeps pick some w s g kind (next_of n keeps w s g kind)
    near_part = lock_elim n keeps w s g kind (Nears n keeps pick some w s g kind) refl refl (λ b l t st at told f. part_near b at l t told f) (λ o. begin_near)

  -- the looks
  module _ (part : HealPart) (b at : ℕ) (l : b < n) (t : turn n keeps (shape q Looks part g kind (Some area)) s Looks b ≡ true) where
    abbrev v : Exact
    v = shape q Looks part g kind (Some area)

    abbrev seen : Told → Exact
    seen told = asked_for n keeps v at b (Look g) told

    first_here : is_opening part ≡ false → q.first_reached b ≡ true
    first_here later = go part later (turn_set n keeps v s Looks b t)
      where
        go : (part : HealPart) → is_opening part ≡ false → looks_at v part b ≡ true → q.first_reached b ≡ true
        go Opening e h = absurd (cc e)
        go Piece e h = h
        go Finish e h = h

    asked_once : is_opening part ≡ false → left_in n q.first_reached (with q.asked b) + 1 ≤ left_in n q.first_reached q.asked
    asked_once later = left_falls n q.first_reached q.first_reached q.asked (with q.asked b) b (λ x l h. h) (λ x l h. with_more q.asked b x h) l (first_here later) (turn_new n keeps v s Looks b t) (with_self q.asked b)

    looked_told : is_opening part ≡ false → (told : Told) → fits (Look g) told ≡ true → left_in n q.first_reached (seen told).asked + 1 ≤ left_in n q.first_reached q.asked
    looked_told later (as_told.Seen view) f = asked_once later
    looked_told later as_told.NoObject f = asked_once later
    looked_told later as_told.Failed f = asked_once later
    looked_told later as_told.NotConnected f = asked_once later
    looked_told later _ f = absurd (cc f)

    healing_of : (told : Told) → fits (Look g) told ≡ true → count_below n (seen told).law.healing ≤ count_below n q.law.healing
    healing_of (as_told.Seen view) f = count_less n q.law.healing (weak.viewed v.law b g.0 view).healing (λ x l h. as_was (weak.viewed v.law b g.0 view).healing q.law.healing (ap (λ (law : Register). law.healing) (viewed_form v.law b g.0 view)) x h)
    healing_of as_told.NoObject f = omega arith
    healing_of as_told.Failed f = omega arith
    healing_of as_told.NotConnected f = count_less n q.law.healing (without q.law.healing b) (λ x l h. without_in q.law.healing b x h)
    healing_of _ f = absurd (cc f)

    pub view_sum : (l left' left p h' h m : ℕ) → l ≤ left' + (2 * n + p + h' + 1) → left' + 1 ≤ left → h' ≤ h → m ≡ left + (2 * n + p + h + 1) → l + 1 ≤ m
    view_sum l left' left p h' h m a k j i = omega (arith, a, k, j, i)

  piece_near : (k : AtViews n keeps (shape q Looks Piece g kind (Some area)) s g kind) (b : ℕ) → b < n → turn n keeps (shape q Looks Piece g kind (Some area)) s Looks b ≡ true → Nears n keeps pick some (shape q Looks Piece g kind (Some area)) s g kind (Ask b (Look g))
  piece_near k b l t st at told f =
      let h = bound_views n keeps (seen Piece b at l t told) s g kind refl refl (st at told f) in
      let i = looks_not n keeps (v Piece b at l t) s g kind Piece refl refl refl k.more in
      view_sum Piece b at l t (lines_left n keeps (seen Piece b at l t told) s kind) (left_in n q.first_reached (seen Piece b at l t told).asked) (left_in n q.first_reached q.asked) (parts_of n (v Piece b at l t) s kind)
      (count_below n (seen Piece b at l t told).law.healing) (count_below n q.law.healing) (lines_left n keeps (v Piece b at l t) s kind) h (looked_told Piece b at l t refl told f) (healing_of Piece b at l t told f) i

  finish_near : (k : AtViews n keeps (shape q Looks Finish g kind (Some area)) s g kind) (b : ℕ) → b < n → turn n keeps (shape q Looks Finish g kind (Some area)) s Looks b ≡ true → Nears n keeps pick some (shape q Looks Finish g kind (Some area)) s g kind (Ask b (Look g))
  finish_near k b l t st at told f =
      let h = bound_views n keeps (seen Finish b at l t told) s g kind refl refl (st at told f) in
      let i = looks_not n keeps (v Finish b at l t) s g kind Finish refl refl refl k.more in
      view_sum Finish b at l t (lines_left n keeps (seen Finish b at l t told) s kind) (left_in n q.first_reached (seen Finish b at l t told).asked) (left_in n q.first_reached q.asked) (parts_of n (v Finish b at l t) s kind)
      (count_below n (seen Finish b at l t told).law.healing) (count_below n q.law.healing) (lines_left n keeps (v Finish b at l t) s kind) h (looked_told Finish b at l t refl told f) (healing_of Finish b at l t told f) i

  pub near_views : (part : HealPart) → is_opening part ≡ false → AtViews n keeps (shape q Looks part g kind (Some area)) s g kind → Nears n keeps pick some (shape q Looks part g kind (Some area)) s g kind (next_of n keeps (shape q Looks part g kind (Some area)) s g kind)
  near_views Opening later k = absurd (cc later)
  near_views Piece later k = look_elim n keeps (shape q Looks Piece g kind (Some area)) s g kind (Nears n keeps pick some (shape q Looks Piece g kind (Some area)) s g kind) refl refl k.more (piece_near k)
  near_views Finish later k = look_elim n keeps (shape q Looks Finish g kind (Some area)) s g kind (Nears n keeps pick some (shape q Looks Finish g kind (Some area)) s g kind) refl refl k.more (finish_near k)
