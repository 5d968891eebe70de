-- What stands at a position depends on the lines before it alone.
use Rattle.std.proofs.Common.{◌≡◌, ℕ, zero, suc, ◌+◌, ◌-◌, ◌<◌, ◌≤◌, Bool, true, false, ◌&&◌, ◌||◌, not, refl, sym, ap, ◌∙◌, subst, arith}
use Rattle.std.specs.Prelude.{None, ◌==◌, if◌then◌else◌, nat_lt, nat_le}
use Rattle.afr_base.specs.declared.ids.Kind.{Kind}
use Rattle.afr_model_moves.specs.Cells.{Cell, object_of, kind_of}
use Rattle.afr_model_moves.specs.Past.{Beginning, kind_at, Log, before, is_of, ends, place, place_after, opens, started, started_after, linked, linked_after, opening, joined, grants, frees, held, last, last_after, holds, values, value, named, posts, taken, settled, changes, leaves_of, Tables, tables, after}
use Rattle.afr_model_moves.specs.Honest.{asks, asked}
use Rattle.afr_law.specs.Safe.{end_of, or_else, outcome, Acknowledged, Current, Opening, Left, Safe}
use Rattle.afr_model_moves.specs.Rules.{register, register_after}
use Rattle.afr_model_moves.specs.Tally.{tally, tally_after}
use Rattle.afr_law.specs.Dirty.{raising, raised, lowering, lowered}
use Rattle.afr_law.specs.Alike.{Alike}
use Rattle.std.proofs.lemmas.Bool.{ltb-true}

module _ (log other : Log) (m : ℕ) (agree : (u : ℕ) → u < m → log u ≡ other u) where
  pub before_at : (t : ℕ) → t ≤ m → (q : ℕ) → before log t q ≡ before other t q
  before_at t h q = go (nat_lt q t) refl
    where
      go : (hit : Bool) → nat_lt q t ≡ hit → (if hit then log q else None) ≡ (if hit then other q else None)
      go true e = agree q (let l = ltb-true q t e in omega (arith, l, h))
      go false e = refl

  pub before_same : (t : ℕ) → t ≤ m → before log t ≡ before other t
  before_same t h = λ i q. before_at t h q i

  pub place_same : (a t : ℕ) → t ≤ m → place log t a ≡ place other t a
  unfolding place
  place_same a zero h = refl
  place_same a (suc t) h = λ i. place_after (is_of a (agree t h i)) (place_same a t (omega arith) i) (agree t h i)

  pub started_same : (b t : ℕ) → t ≤ m → started log t b ≡ started other t b
  unfolding started
  started_same b zero h = refl
  started_same b (suc t) h = λ i. started_after (started_same b t (omega arith) i) b (agree t h i)

  pub linked_same : (a b t : ℕ) → t ≤ m → linked log t a b ≡ linked other t a b
  unfolding linked
  linked_same a b zero h = refl
  linked_same a b (suc t) h = λ i. linked_after (linked_same a b t (omega arith) i) a b (agree t h i)

  pub opening_same : (a b t : ℕ) → t < m → opening log t a b ≡ opening other t a b
  unfolding opening
  opening_same a b t h = λ i. is_of a (agree t h i) && opens (place_same a t (omega arith) i) (agree t h i) && started_same b t (omega arith) i && linked_same a b t (omega arith) i

  pub joined_same : (a b t : ℕ) → t ≤ m → joined log t a b ≡ joined other t a b
  unfolding joined
  joined_same a b zero h = refl
  joined_same a b (suc t) h = λ i. (joined_same a b t (omega arith) i || opening_same a b t h i) && not (ends a b (agree t h i))

  pub last_same : (a t : ℕ) → t ≤ m → last log t a ≡ last other t a
  unfolding last
  last_same a zero h = refl
  last_same a (suc t) h = λ i. last_after (last_same a t (omega arith) i) a t (agree t h i)

  tables_same : (files : Beginning) (t : ℕ) → t ≤ m → (u b : ℕ) → tables files log t u b ≡ tables files other t u b
  unfolding tables
  tables_same files zero h u b = refl
  tables_same files (suc t) h u b = λ i.
      if nat_le u t then tables_same files t (omega arith) u b i
      else after files.names (before_same t (omega arith) i) (λ a. last_same a t (omega arith) i) t b (λ v c. tables_same files t (omega arith) v c i) (agree t h i)

  pub kind_same : (files : Beginning) (b g t : ℕ) → t ≤ m → kind_at files log t b g ≡ kind_at files other t b g
  kind_same files b g t h = ap (λ (k : Tables). k.kinds g) (tables_same files t h t b)

  pub holds_same : (files : Beginning) (b g t : ℕ) → t ≤ m → holds files log t b g ≡ holds files other t b g
  holds_same files b g t h = λ i. not (kind_same files b g t h i == 0)

  values_same : (files : Beginning) (t : ℕ) → t ≤ m → (u b : ℕ) (cell : Cell) → values files log t u b cell ≡ values files other t u b cell
  values_same files t h u b cell = ap (λ (k : Tables). k.cells cell) (tables_same files t h u b)

  pub value_same : (files : Beginning) (b : ℕ) (cell : Cell) (t : ℕ) → t ≤ m → value files log t b cell ≡ value files other t b cell
  value_same files b cell t h = values_same files t h t b cell

  pub posts_same : (files : Beginning) (x c g : ℕ) (kind : Kind) (t : ℕ) → t ≤ m → posts files log t x c g kind ≡ posts files other t x c g kind
  unfolding posts
  posts_same files x c g kind zero h = refl
  posts_same files x c g kind (suc t) h = λ i. (if holds_same files x g t (omega arith) i && named x c g kind (agree t h i) then 1 else 0) + posts_same files x c g kind t (omega arith) i

  pub settled_same : (files : Beginning) (x c g : ℕ) (kind : Kind) (t : ℕ) → t ≤ m → settled files log t x c g kind ≡ settled files other t x c g kind
  unfolding settled
  settled_same files x c g kind zero h = refl
  settled_same files x c g kind (suc t) h = λ i. (if holds_same files x g t (omega arith) i then taken x c g kind (agree t h i) else 0) + settled_same files x c g kind t (omega arith) i

  pub outcome_same : (a q t : ℕ) → t ≤ m → outcome log t a q ≡ outcome other t a q
  unfolding outcome
  outcome_same a q zero h = refl
  outcome_same a q (suc t) h = λ i. or_else (outcome_same a q t (omega arith) i) (if nat_lt q t then end_of a (agree t h i) else None)

  pub asked_same : (b t : ℕ) → t ≤ m → asked log t b ≡ asked other t b
  unfolding asked
  asked_same b zero h = refl
  asked_same b (suc t) h = λ i. (if asks b (agree t h i) then 1 else 0) + asked_same b t (omega arith) i

  pub register_same : (n a t : ℕ) → t ≤ m → register n log t a ≡ register n other t a
  unfolding register
  register_same n a zero h = refl
  register_same n a (suc t) h = λ i. register_after n (is_of a (agree t h i)) (opens (place_same a t (omega arith) i) (agree t h i)) (register_same n a t (omega arith) i) t (agree t h i)

  pub tally_same : (a t : ℕ) → t ≤ m → tally log t a ≡ tally other t a
  unfolding tally
  tally_same a zero h = refl
  tally_same a (suc t) h = λ i. tally_after (is_of a (agree t h i)) (opens (place_same a t (omega arith) i) (agree t h i)) (tally_same a t (omega arith) i) (last_same a t (omega arith) i) (agree t h i)

  pub raised_same : (files : Beginning) (x g : ℕ) (kind : Kind) (t : ℕ) → t ≤ m → raised files log t x g kind ≡ raised files other t x g kind
  unfolding raised
  raised_same files x g kind zero h = refl
  raised_same files x g kind (suc t) h = λ i. (if holds_same files x g t (omega arith) i && raising x g kind (agree t h i) then 1 else 0) + raised_same files x g kind t (omega arith) i

  pub lowered_same : (files : Beginning) (x g : ℕ) (kind : Kind) (t : ℕ) → t ≤ m → lowered files log t x g kind ≡ lowered files other t x g kind
  unfolding lowered
  lowered_same files x g kind zero h = refl
  lowered_same files x g kind (suc t) h = λ i. (if holds_same files x g t (omega arith) i then lowering x g kind (agree t h i) else 0) + lowered_same files x g kind t (omega arith) i

  pub held_same : (b p t : ℕ) → t ≤ m → held log t b p ≡ held other t b p
  unfolding held
  held_same b p zero h = refl
  held_same b p (suc t) h = λ i. if p == t then grants b (agree t h i) else (held_same b p t (omega arith) i && not (frees b (before_at t (omega arith) p i) (agree t h i)))

  acknowledged_same : (k : ℕ) → Acknowledged other m k → Acknowledged log m k
  acknowledged_same k w = record {
    a = w.a;
    change = w.change;
    is = agree k w.past ∙ w.is;
    past = w.past;
    ok = outcome_same w.a k m (omega arith) ∙ w.ok;
  }

  current_same : (files : Beginning) (b : ℕ) (cell : Cell) → Current files log m b cell → Current files other m b cell
  current_same files b cell (Opening same none) =
      Opening (sym (value_same files b cell m (omega arith)) ∙ same) (λ k acked hit. none k (acknowledged_same k acked) (subst (λ l. changes l cell ≡ true) (sym (agree k acked.past)) hit))
  current_same files b cell (Left q past hit same newest) =
      Left q past (subst (λ l. changes l cell ≡ true) (agree q past) hit) (sym (value_same files b cell m (omega arith)) ∙ same ∙ ap (λ l. leaves_of l cell) (agree q past))
      (λ k acked hit. newest k (acknowledged_same k acked) (subst (λ l. changes l cell ≡ true) (sym (agree k acked.past)) hit))

  -- what is safe of a log at m is safe of any log with the same lines before m
  pub safe_same : (n : ℕ) (keeps : ℕ → Kind → Bool) (files : Beginning) → Safe n keeps files log m → Safe n keeps files other m
  safe_same n keeps files safe among majority b cell good =
      current_same files b cell (safe among majority b cell (record {
        below = good.below;
        member = good.member;
        holder = holds_same files b (object_of cell) m (omega arith) ∙ good.holder;
        copy = good.copy;
        unaccused = λ x below member.
            (λ i. posts_same files x b (object_of cell) (kind_of cell) m (omega arith) i - settled_same files x b (object_of cell) (kind_of cell) m (omega arith) i) ∙ good.unaccused x below member;
      }))

  -- what is alike of a log at m is so of any log with the same lines before m
  pub alike_same : (n : ℕ) (files : Beginning) → Alike n files log m → Alike n files other m
  alike_same n files alike cell none b c below under copy also =
      sym (value_same files b cell m (omega arith))
      ∙ alike cell (record {
        clean = λ x low. (λ i. raised_same files x (object_of cell) (kind_of cell) m (omega arith) i - lowered_same files x (object_of cell) (kind_of cell) m (omega arith) i) ∙ none.clean x low;
        unaccused = λ x d low high. (λ i. posts_same files x d (object_of cell) (kind_of cell) m (omega arith) i - settled_same files x d (object_of cell) (kind_of cell) m (omega arith) i) ∙ none.unaccused x d low high;
      }) b c below under copy also
      ∙ value_same files c cell m (omega arith)
