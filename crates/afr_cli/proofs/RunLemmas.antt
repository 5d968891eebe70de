-- What a run by a form says of a run by threads, and of a crawl.
use Rattle.std.proofs.Common.{◌≡◌, ◌∙◌, ◌⊎◌, inl, inr, ℕ, Bool, true, false, true≢false, List, Option, refl, sym, subst}
use Rattle.std.specs.Io.KnownBytes.{Appends}
use Rattle.std.specs.Prelude.{String}
use Rattle.std.specs.Global.{Global}
use Rattle.afr_law_bound.specs.Ends.Law.{AreEager}
use Rattle.afr_text.specs.Parts.{AppendsFront}
use Rattle.afr_model.specs.Complete.{IsComplete}
use Rattle.afr_model.specs.Crawl.{CanCrawl}
use Rattle.afr_plan.specs.declared.plan.Plan.{Plan}
use Rattle.afr_volume.specs.State.{State, no_volume}
use Rattle.afr_words.specs.Forms.{AskLive}
use Rattle.afr_words.specs.declared.live.LiveForm.{LiveForm}
use Rattle.afr_words.specs.declared.live.LiveForm.TheVariants as live
use Rattle.afr_cli.specs.Crawl.{IsCrawlLeft, IsCrawlOver, IsCrawlRefusal, IsLeftFor, IsOverFor, crawl_refusal_line, crawls}
use Rattle.afr_cli.specs.Live.{HasRun, IsLiveText, IsRunText, StopsLive, StopsRun, text_live}
use Rattle.afr_cli.specs.Statuses.{IsOver, IsSpelled, IsWorkLeft}
use Rattle.afr_cli.proofs.EndLemmas.{nothing_eager}
use Rattle.afr_cli.proofs.StatusLemmas.{run_is_spelled}

-- ---- statuses
pub few_more : (r : ℕ) → (r ≡ 0) ⊎ (r ≡ 5) ⊎ (r ≡ 6) ⊎ (r ≡ 7) → (r ≡ 0) ⊎ (r ≡ 5) ⊎ (r ≡ 6) ⊎ (r ≡ 7) ⊎ (r ≡ 8)
few_more r (inl e) = inl e
few_more r (inr (inl e)) = inr (inl e)
few_more r (inr (inr (inl e))) = inr (inr (inl e))
few_more r (inr (inr (inr e))) = inr (inr (inr (inl e)))

pub few_all : (r : ℕ) → (r ≡ 0) ⊎ (r ≡ 5) ⊎ (r ≡ 6) ⊎ (r ≡ 7) ⊎ (r ≡ 8) → (r ≡ 0) ⊎ (r ≡ 3) ⊎ (r ≡ 4) ⊎ (r ≡ 5) ⊎ (r ≡ 6) ⊎ (r ≡ 7) ⊎ (r ≡ 8)
few_all r (inl e) = inl e
few_all r (inr (inl e)) = inr (inr (inr (inl e)))
few_all r (inr (inr (inl e))) = inr (inr (inr (inr (inl e))))
few_all r (inr (inr (inr (inl e)))) = inr (inr (inr (inr (inr (inl e)))))
few_all r (inr (inr (inr (inr e)))) = inr (inr (inr (inr (inr (inr e)))))

pub never_eight : (r : ℕ) → (r ≡ 0) ⊎ (r ≡ 5) ⊎ (r ≡ 6) ⊎ (r ≡ 7) → r ≡ 8 → ⊥
never_eight r (inl e) eight = absurd (cc (sym e ∙ eight))
never_eight r (inr (inl e)) eight = absurd (cc (sym e ∙ eight))
never_eight r (inr (inr (inl e))) eight = absurd (cc (sym e ∙ eight))
never_eight r (inr (inr (inr e))) eight = absurd (cc (sym e ∙ eight))

-- ---- the form that crawls
pub asks_crawl : (words : List (String Global)) (form : LiveForm) → crawls form ≡ true → AskLive words form → AskLive words live.Crawl
asks_crawl words live.Live e asked = absurd (cc e)
asks_crawl words live.Crawl e asked = asked
asks_crawl words live.Record e asked = absurd (cc e)

-- ---- the volume
module _ (form : LiveForm) (plan : Plan) (now : State) where
  pub none_live : crawls form ≡ false → now.crawl ≡ false → (now ≡ no_volume) ⊎ (now.plan ≡ plan) → (now ≡ no_volume) ⊎ ((now.plan ≡ plan) × (now.crawl ≡ crawls form))
  none_live is plain (inl e) = inl e
  none_live is plain (inr same) = inr (same, plain ∙ sym is)

  pub none_crawl : crawls form ≡ true → (now ≡ no_volume) ⊎ ((now.plan ≡ plan) × (now.crawl ≡ true)) → (now ≡ no_volume) ⊎ ((now.plan ≡ plan) × (now.crawl ≡ crawls form))
  none_crawl is (inl e) = inl e
  none_crawl is (inr h) = inr (h.0, h.1 ∙ sym is)

  pub ran_live : crawls form ≡ false → now.crawl ≡ false → now.plan ≡ plan → IsComplete now.plan now.log → HasRun form plan now
  ran_live is plain same complete = record { plan_is = same; crawl = plain ∙ sym is; can = λ e. absurd (true≢false (sym e ∙ is)); complete = complete }

  pub ran_crawl : crawls form ≡ true → now.crawl ≡ true → CanCrawl plan → now.plan ≡ plan → IsComplete now.plan now.log → HasRun form plan now
  ran_crawl is crawl can same complete = record { plan_is = same; crawl = crawl ∙ sym is; can = λ e. can; complete = complete }

  -- as the run of its own plan
  pub own_run : HasRun form plan now → HasRun form now.plan now
  own_run ran = record { plan_is = refl; crawl = ran.crawl; can = λ e. subst CanCrawl (sym ran.plan_is) (ran.can e); complete = ran.complete }

  -- a run that crawled has no other flag
  pub no_plain : {A : Type 0} → crawls form ≡ true → HasRun form plan now → now.crawl ≡ false → A
  no_plain is ran plain = absurd (true≢false (sym is ∙ sym ran.crawl ∙ plain))

  pub eager_crawl : (now ≡ no_volume) ⊎ ((now.plan ≡ plan) × (now.crawl ≡ true)) → now.crawl ≡ false → AreEager now.log
  eager_crawl (inl e) plain = nothing_eager now e
  eager_crawl (inr h) plain = absurd (true≢false (sym h.1 ∙ plain))

pub left_live : (now : State) → now.crawl ≡ false → IsWorkLeft now.plan now.log → IsLeftFor now.crawl now
left_live now plain h = subst (λ (crawl : Bool). IsLeftFor crawl now) (sym plain) h

pub left_crawl : (now : State) → now.crawl ≡ true → IsCrawlLeft now → IsLeftFor now.crawl now
left_crawl now crawl h = subst (λ (crawl : Bool). IsLeftFor crawl now) (sym crawl) h

over_live : (now : State) → now.crawl ≡ false → IsOver now.plan now.log → IsOverFor now.crawl now
over_live now plain h = subst (λ (crawl : Bool). IsOverFor crawl now) (sym plain) h

over_crawl : (now : State) → now.crawl ≡ true → IsCrawlOver now → IsOverFor now.crawl now
over_crawl now crawl h = subst (λ (crawl : Bool). IsOverFor crawl now) (sym crawl) h

-- ---- texts that were cut off
module _ (form : LiveForm) (plan : Plan) (taken taken' : Option (List ℕ)) (now : State) where
  pub stops_live : HasRun form plan now → now.crawl ≡ false → IsOver now.plan now.log → AppendsFront taken taken' (text_live form now.plan now.log) → StopsRun form plan taken taken' now
  stops_live ran plain over front = record { text = text_live form now.plan now.log; known = IsRunText.Report ran (over_live now plain over); front = front }

  pub stops_crawl : HasRun form plan now → now.crawl ≡ true → IsCrawlOver now → AppendsFront taken taken' (text_live form now.plan now.log) → StopsRun form plan taken taken' now
  stops_crawl ran crawl over front = record { text = text_live form now.plan now.log; known = IsRunText.Report ran (over_crawl now crawl over); front = front }

  pub stops_refusal : crawls form ≡ true → (CanCrawl plan → ⊥) → now ≡ no_volume → AppendsFront taken taken' crawl_refusal_line → StopsRun form plan taken taken' now
  stops_refusal is cause none front = record { text = crawl_refusal_line; known = IsRunText.Refusal is cause none; front = front }

-- the same of the words that asked for it
module _ {S : Type 0} (words : List (String Global)) (left : S → Option (List ℕ)) (source source' : S) (form : LiveForm) (plan : Plan) (now : State) (asked : AskLive words form) (spelled : IsSpelled (left source) (left source') plan) where
  text_known : (text : List ℕ) → IsRunText form plan now text → IsLiveText words left source source' now text
  text_known text (IsRunText.Report ran over) = IsLiveText.Report form asked (run_is_spelled _ _ plan spelled now.plan ran.plan_is) ran.complete over
  text_known text (IsRunText.Refusal is cause none) = IsLiveText.CrawlRefusal (asks_crawl words form is asked) plan spelled cause none

  pub stops_asked : (taken taken' : Option (List ℕ)) → StopsRun form plan taken taken' now → StopsLive words left source source' taken taken' now
  stops_asked taken taken' cut = record { text = cut.text; known = text_known cut.text cut.known; front = cut.front }

pub refuses_crawl : (words : List (String Global)) (form : LiveForm) (left left' taken taken' : Option (List ℕ)) (plan : Plan) → AskLive words form → crawls form ≡ true → IsSpelled left left' plan → (CanCrawl plan → ⊥)
    → Appends taken taken' crawl_refusal_line → IsCrawlRefusal words left left' taken taken'
refuses_crawl words form left left' taken taken' plan asked is spelled cause line = record { asked = asks_crawl words form is asked; plan = plan; spelled = spelled; cause = cause; line = line }

pub spelled_run : (form : LiveForm) (plan : Plan) (left left' : Option (List ℕ)) (now : State) → IsSpelled left left' plan → (now ≡ no_volume) ⊎ ((now.plan ≡ plan) × (now.crawl ≡ crawls form))
    → (now ≡ no_volume) ⊎ (IsSpelled left left' now.plan × (now.crawl ≡ crawls form))
spelled_run form plan left left' now spelled (inl e) = inl e
spelled_run form plan left left' now spelled (inr h) = inr (run_is_spelled left left' plan spelled now.plan h.0, h.1)
