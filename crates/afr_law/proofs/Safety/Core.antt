-- Safety of one cell, from facts about the lines that touch it. Numbers are positions of Begin and HealBegin lines.
use Rattle.std.proofs.Common.{◌≡◌, ℕ, zero, suc, ◌+◌, ◌-◌, ◌<◌, ◌≤◌, Bool, true, ◌⊎◌, inl, inr, refl, sym, ◌∙◌, subst, arith}
use Rattle.afr_base.specs.Majority.{majorities_share, IsMajority}
use Rattle.afr_model_moves.proofs.Tests.{three_cases}
use Rattle.std.proofs.lemmas.Bool.{cases_lt}

-- a majority of bricks, none of which accuses `source` at the looks of number h; the marks that were taken back there are those that were at h
pub record Clean (bricks : ℕ) (Looks : ℕ → ℕ → ℕ → Type 0) (posts settled : ℕ → ℕ → ℕ → ℕ) (h source : ℕ) : Type 0 where
  pub among : ℕ → Bool
  pub majority : IsMajority bricks among
  pub looked : (x : ℕ) → x < bricks → among x ≡ true → (l : ℕ) × Looks h x l × (posts l x source ≤ settled l x source) × (settled l x source ≡ settled h x source)

-- the history of one cell
pub record History : Type 1 where
  pub bricks : ℕ
  pub Value : Type 0
  pub leaves : ℕ → Value  -- 0 is the opening value, suc q what attempt q leaves
  pub IsOrigin : ℕ → ℕ → Type 0  -- by this time: 0, or suc q of an attempt before it that touches the cell
  pub IsCopy : ℕ → Type 0  -- the brick keeps such cells
  pub stamp : ℕ → ℕ → ℕ  -- time, brick: suc of the last number that touched the cell, or 0
  pub value : ℕ → ℕ → Value
  pub posts : ℕ → ℕ → ℕ → ℕ  -- time, x, c: Post lines at x that name c
  pub settled : ℕ → ℕ → ℕ → ℕ  -- and what the Settle lines there took back
  pub Acts : ℕ → ℕ → ℕ → Type 0  -- number, brick, time: the line at this time acts there under a lock on the cell
  pub Looks : ℕ → ℕ → ℕ → Type 0  -- such a line that is a look of a heal
  pub Posted : ℕ → ℕ → ℕ → Type 0  -- such a line that is a Post of an attempt that touches the cell
  pub Counts : ℕ → Type 0  -- attempts that touch the cell and have Post lines at a majority
  -- locks
  pub acts_later : (n b t : ℕ) → Acts n b t → n < t
  pub apart : (n m b t u : ℕ) → Acts n b t → Acts m b u → n < m → t < m
  pub looks-acts : (h x t : ℕ) → Looks h x t → Acts h x t
  pub posted-acts : (q x t : ℕ) → Posted q x t → Acts q x t
  -- writes
  pub start : (b : ℕ) → IsCopy b → (stamp 0 b ≡ 0) × (value 0 b ≡ leaves 0)
  pub opening : (t : ℕ) → IsOrigin t 0
  pub origin_later : (t o : ℕ) → IsOrigin t o → IsOrigin (suc t) o
  pub writes : (t b : ℕ) → IsCopy b →
      ((stamp (suc t) b ≡ stamp t b) × (value (suc t) b ≡ value t b))
      ⊎ ((q : ℕ) × Acts q b t × (stamp (suc t) b ≡ suc q) × (value (suc t) b ≡ leaves (suc q)) × IsOrigin (suc t) (suc q))
      ⊎ ((h : ℕ) × (r : ℕ) × (s : ℕ) × Acts h b t × (stamp (suc t) b ≡ suc h) × (value (suc t) b ≡ value r s) × (h ≤ r) × (r ≤ t) × IsCopy s × (s < bricks) × (Counts h → ⊥) × Clean bricks Looks posts settled h s)
  -- marks
  pub posts_rise : (t x c : ℕ) → posts t x c ≤ posts (suc t) x c
  pub posts_start : (x c : ℕ) → (posts 0 x c ≡ 0) × (settled 0 x c ≡ 0)
  pub names : (q x p b : ℕ) → IsCopy b → Posted q x p → b < bricks →
      (posts (suc p) x b ≡ suc (posts p x b)) ⊎ ((m : ℕ) × (m < p) × (stamp (suc m) b ≡ suc q))
  pub settles : (t x c : ℕ) → IsCopy c →
      (settled (suc t) x c ≡ settled t x c)
      ⊎ ((l : ℕ) × (h : ℕ) × Looks h x l × (l ≤ t) × (settled (suc t) x c ≡ settled t x c + (posts l x c - settled l x c)) × (settled t x c ≡ settled l x c) × (h < stamp t c))
  -- acknowledgement
  pub counted : (q : ℕ) → Counts q → (among : ℕ → Bool) × IsMajority bricks among × ((x : ℕ) → x < bricks → among x ≡ true → (p : ℕ) × Posted q x p)

-- what rises from each moment to the next is no less later
pub rises : (f : ℕ → ℕ) → ((t : ℕ) → f t ≤ f (suc t)) → (t u : ℕ) → t ≤ u → f t ≤ f u
rises f up t zero h = let e : t ≡ 0 = omega arith in rw e (omega arith)
rises f up t (suc u) h =
    elim (cases_lt u t) [
      | inl over ↦ (let e : t ≡ suc u = omega arith in rw e (omega arith))
      | inr under ↦ (let before = rises f up t u under in omega (arith, before, up u))
    ]

module _ (H : History) where
  -- a number is on the cell only after a line that put it there
  stamped : (t b n : ℕ) → H.IsCopy b → H.stamp t b ≡ suc n → (m : ℕ) × (m < t) × H.Acts n b m
  stamped zero b n copy e = absurd (omega (arith, e, (H.start b copy).0))
  stamped (suc t) b n copy e =
      elim (H.writes t b copy) [
        | inl same ↦ (let before = stamped t b n copy (sym same.0 ∙ e) in (before.0, omega arith, before.2))
        | inr (inl w) ↦ (t, omega arith, subst (λ k. H.Acts k b t) (omega (arith, w.2, e)) w.1)
        | inr (inr w) ↦ (t, omega arith, subst (λ k. H.Acts k b t) (omega (arith, w.4, e)) w.3)
      ]

  -- no number is put under a greater one
  kept_under : (t b n : ℕ) → H.IsCopy b → H.Acts n b t → H.stamp t b ≤ suc n
  kept_under t b n copy acts = go (H.stamp t b) refl
    where
      go : (s : ℕ) → H.stamp t b ≡ s → s ≤ suc n
      go zero e = omega arith
      go (suc m) e =
          elim (cases_lt n m) [
            | inl over ↦ (
                let was = stamped t b m copy e in
                let early : t < m = H.apart n m b t was.0 acts was.2 over in
                absurd (omega (arith, early, was.1, H.acts_later m b was.0 was.2))
                )
            | inr fine ↦ omega arith
          ]

  stamp_rises_once : (t b : ℕ) → H.IsCopy b → H.stamp t b ≤ H.stamp (suc t) b
  stamp_rises_once t b copy =
      elim (H.writes t b copy) [
        | inl same ↦ omega (arith, same.0)
        | inr (inl w) ↦ omega (arith, w.2, kept_under t b w.0 copy w.1)
        | inr (inr w) ↦ omega (arith, w.4, kept_under t b w.0 copy w.3)
      ]

  pub stamp_rises : (b : ℕ) → H.IsCopy b → (t u : ℕ) → t ≤ u → H.stamp t b ≤ H.stamp u b
  stamp_rises b copy = rises (λ t. H.stamp t b) (λ t. stamp_rises_once t b copy)

  posts_later : (x c t u : ℕ) → t ≤ u → H.posts t x c ≤ H.posts u x c
  posts_later x c = rises (λ t. H.posts t x c) (λ t. H.posts_rise t x c)

  -- no more is taken back than was added
  settled_within : (t x c : ℕ) → H.IsCopy c → H.settled t x c ≤ H.posts t x c
  settled_within zero x c copy = omega (arith, (H.posts_start x c).0, (H.posts_start x c).1)
  settled_within (suc t) x c copy =
      let before = settled_within t x c copy in
      elim (H.settles t x c copy) [
        | inl same ↦ omega (arith, same, before, H.posts_rise t x c)
        | inr w ↦ omega (arith, w.4, w.5, before, H.posts_rise t x c, posts_later x c w.0 t w.3)
      ]

  -- what the Settle lines at x took back for c are the Post lines before some moment, and c has since been given what those missed
  pub record Cleared (t x c : ℕ) : Type 0 where
    pub upto : ℕ
    pub past : upto ≤ t
    pub exact : H.settled t x c ≡ H.posts upto x c
    pub covered : (q p : ℕ) → p < upto → H.Posted q x p → q < H.stamp t c

  cleared : (t x c : ℕ) → H.IsCopy c → Cleared t x c
  cleared zero x c copy = record {
    upto = 0;
    past = omega arith;
    exact = omega (arith, (H.posts_start x c).0, (H.posts_start x c).1);
    covered = λ q p under posted. absurd (omega arith);
  }
  cleared (suc t) x c copy =
      let before = cleared t x c copy in
      elim (H.settles t x c copy) [
        | inl same ↦ record {
          upto = before.upto;
          past = omega (arith, before.past);
          exact = same ∙ before.exact;
          covered = λ q p under posted. omega (arith, before.covered q p under posted, stamp_rises_once t c copy);
        }
        | inr w ↦ record {
          upto = w.0;
          past = omega (arith, w.3);
          exact = omega (arith, w.4, w.5, settled_within w.0 x c copy);
          covered = λ q p under posted. healed t x c copy q p w.1 w.0 posted w.2 under w.6;
        }
      ]
    where
      healed : (t x c : ℕ) → H.IsCopy c → (q p h l : ℕ) → H.Posted q x p → H.Looks h x l → p < l → h < H.stamp t c → q < H.stamp (suc t) c
      healed t x c copy q p h l posted looks under stamp =
          elim (cases_lt h q) [
            | inl over ↦ (
                let early : l < q = H.apart h q x l p (H.looks-acts h x l looks) (H.posted-acts q x p posted) over in
                absurd (omega (arith, early, under, H.acts_later q x p (H.posted-acts q x p posted)))
                )
            | inr fine ↦ omega (arith, fine, stamp, stamp_rises_once t c copy)
          ]

  -- a copy that a brick with a Post line doesn't accuse has the attempt, or a later number
  pub reached : (t x c q p : ℕ) → H.IsCopy c → c < H.bricks → H.Posted q x p → p < t → H.posts t x c ≤ H.settled t x c → q < H.stamp t c
  reached t x c q p copy below posted past none =
      elim (H.names q x p c copy posted below) [
        | inl named ↦ (
            let c_at = cleared t x c copy in
            elim (cases_lt p c_at.upto) [
              | inl under ↦ c_at.covered q p under posted
              | inr over ↦ absurd (omega (arith, named, over, c_at.exact, none, posts_later x c (suc p) t past, posts_later x c c_at.upto p over))
            ]
            )
        | inr w ↦ omega (arith, w.2, stamp_rises c copy (suc w.0) t (omega (arith, w.1, past)))
      ]

  -- a copy that a heal's majority doesn't accuse had, at the heal's number, each counted attempt before it
  source_at : (h s q x p l : ℕ) → H.Looks h x l → H.posts l x s ≤ H.settled l x s → H.settled l x s ≡ H.settled h x s → H.IsCopy s → s < H.bricks → q < h → H.Posted q x p → q < H.stamp h s
  source_at h s q x p l looks none marks copy below less posted =
      let acts = H.looks-acts h x l looks in
      let early : p < h = H.apart q h x p l (H.posted-acts q x p posted) acts less in
      let later : h < l = H.acts_later h x l acts in
      reached h x s q p copy below posted early (omega (arith, marks, none, posts_later x s h l (omega (arith, later))))

  source_reached : (h s q : ℕ) → Clean H.bricks H.Looks H.posts H.settled h s → H.IsCopy s → s < H.bricks → H.Counts q → q < h → q < H.stamp h s
  source_reached h s q clean copy below counts less =
      let d = H.counted q counts in
      let x = majorities_share H.bricks clean.among d.0 clean.majority d.1 in
      let posted = d.2 x.0 x.1 x.3 in
      let look = clean.looked x.0 x.1 x.2 in
      source_at h s q x.0 posted.0 look.0 look.1 look.2 look.3 copy below less posted.1

  -- where the value of a copy comes from: no counted attempt up to its stamp is later
  pub record Origin (t b : ℕ) : Type 0 where
    pub from : ℕ
    pub legal : H.IsOrigin t from
    pub same : H.value t b ≡ H.leaves from
    pub newest : (q : ℕ) → H.Counts q → q < H.stamp t b → q < from

  origin_mended : (t b h r s : ℕ) → H.stamp (suc t) b ≡ suc h → H.value (suc t) b ≡ H.value r s → h ≤ r → r ≤ t → H.IsCopy s → s < H.bricks → (H.Counts h → ⊥) → Clean H.bricks H.Looks H.posts H.settled h s → Origin r s → Origin (suc t) b
  origin_mended t b h r s stamp value low high copy below other clean was = record {
    from = was.from;
    legal = later (suc t) r was.from (omega (arith, high)) was.legal;
    same = value ∙ was.same;
    newest = λ q counts under. elim (three_cases q h) [
      | inl less ↦ was.newest q counts (omega (arith, source_reached h s q clean copy below counts less, stamp_rises s copy h r low))
      | inr (inl same) ↦ absurd (other (subst H.Counts same counts))
      | inr (inr more) ↦ absurd (omega (arith, under, stamp, more))
    ];
  }
    where
      later : (u r o : ℕ) → r ≤ u → H.IsOrigin r o → H.IsOrigin u o
      later zero r o h legal = subst (λ k. H.IsOrigin k o) (omega (arith, h)) legal
      later (suc u) r o h legal =
          elim (cases_lt u r) [
            | inl over ↦ subst (λ k. H.IsOrigin k o) (omega (arith, over, h)) legal
            | inr under ↦ H.origin_later u o (later u r o under legal)
          ]

  -- at each moment up to this one
  origins : (t u b : ℕ) → H.IsCopy b → u ≤ t → Origin u b
  origins zero u b copy low =
      let e : 0 ≡ u = omega arith in
      subst (λ k. Origin k b) e (record {
        from = 0;
        legal = H.opening 0;
        same = (H.start b copy).1;
        newest = λ q counts under. absurd (omega (arith, under, (H.start b copy).0));
      })
  origins (suc t) u b copy low =
      elim (cases_lt t u) [
        | inl last ↦ (let e : suc t ≡ u = omega arith in subst (λ k. Origin k b) e (next t b copy (λ v c kept early. origins t v c kept early)))
        | inr early ↦ origins t u b copy early
      ]
    where
      next : (t b : ℕ) → H.IsCopy b → ((v c : ℕ) → H.IsCopy c → v ≤ t → Origin v c) → Origin (suc t) b
      next t b copy before =
          elim (H.writes t b copy) [
            | inl same ↦ (let was = before t b copy (omega arith) in record {
              from = was.from;
              legal = H.origin_later t was.from was.legal;
              same = same.1 ∙ was.same;
              newest = λ q counts under. was.newest q counts (omega (arith, under, same.0));
            })
            | inr (inl w) ↦ record {
              from = suc w.0;
              legal = w.4;
              same = w.3;
              newest = λ q counts under. omega (arith, under, w.2);
            }
            | inr (inr w) ↦ origin_mended t b w.0 w.1 w.2 w.4 w.5 w.6 w.7 w.8 w.9 w.10 w.11 (before w.1 w.2 w.8 w.7)
          ]

  -- what a counted attempt put on a copy stays there, or something later
  pub kept_on : (t b q m : ℕ) → H.IsCopy b → H.Counts q → m < t → H.stamp (suc m) b ≡ suc q → (from : ℕ) × H.IsOrigin t from × (H.value t b ≡ H.leaves from) × (q < from)
  kept_on t b q m copy counts past put =
      let o = origins t t b copy (omega arith) in
      (o.from, o.legal, o.same, o.newest q counts (omega (arith, put, stamp_rises b copy (suc m) t past)))

  -- the value of a copy that no brick of a majority accuses is left by no attempt before one that was acknowledged
  pub one_cell : (t b : ℕ) (among : ℕ → Bool) → IsMajority H.bricks among → H.IsCopy b → b < H.bricks
      → ((x : ℕ) → x < H.bricks → among x ≡ true → H.posts t x b ≤ H.settled t x b)
      → (from : ℕ) × H.IsOrigin t from × (H.value t b ≡ H.leaves from)
      × ((q : ℕ) → H.Counts q → (done : ℕ → Bool) → IsMajority H.bricks done → ((x : ℕ) → x < H.bricks → done x ≡ true → (p : ℕ) × (p < t) × H.Posted q x p) → q < from)
  one_cell t b among majority copy below none =
      let o = origins t t b copy (omega arith) in (
        o.from,
        o.legal,
        o.same,
        λ q counts done most posted.
            let x = majorities_share H.bricks among done majority most in
            let p = posted x.0 x.1 x.3 in
            o.newest q counts (reached t x.0 b q p.0 copy below p.2 p.1 (none x.0 x.1 x.2)),
      )

  -- a read without locks: a copy that a majority of looks since `since` and before the read didn't accuse shows nothing older than what had its Post lines before `since`
  pub one_read : (r b since : ℕ) (among : ℕ → Bool) → IsMajority H.bricks among → H.IsCopy b → b < H.bricks
      → ((x : ℕ) → x < H.bricks → among x ≡ true → (l : ℕ) × (since ≤ l) × (l ≤ r) × (H.posts l x b ≤ H.settled l x b))
      → (from : ℕ) × H.IsOrigin r from × (H.value r b ≡ H.leaves from)
      × ((q : ℕ) → H.Counts q → (done : ℕ → Bool) → IsMajority H.bricks done → ((x : ℕ) → x < H.bricks → done x ≡ true → (p : ℕ) × (p < since) × H.Posted q x p) → q < from)
  one_read r b since among majority copy below looks =
      let o = origins r r b copy (omega arith) in (
        o.from,
        o.legal,
        o.same,
        λ q counts done most posted.
            let x = majorities_share H.bricks among done majority most in
            let p = posted x.0 x.1 x.3 in
            let l = looks x.0 x.1 x.2 in
            let had : q < H.stamp l.0 b = reached l.0 x.0 b q p.0 copy below p.2 (omega (arith, p.1, l.1)) l.3 in
            o.newest q counts (omega (arith, had, stamp_rises b copy l.0 r l.2)),
      )
