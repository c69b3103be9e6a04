use Rattle.std.proofs.Common.{◌∙◌, sym, ap, subst}
use Rattle.std.specs.Prelude.{IfSome, option_copied}
use Rattle.scrape_config.specs.declared.conf.Job.{Job}
use Rattle.target_set.specs.Requests.{request_of}
use Rattle.scrape_core.specs.Readers.{MayFetch, life_request}
use Rattle.scrape_core.proofs.AskLemmas.{may_fetch}
use Rattle.scrape_core.proofs.ReaderLemmas.{request_settings}
use Rattle.scrape_core.proofs.readers.request_for.Goals as goal

pub returns-in_ok-request-in-Some-clause-request : goal.returns-in_ok-request-in-Some-clause-request
returns-in_ok-request-in-Some-clause-request c =
    let l = c.in-Some.life.now in
    c.in_ok-request-in-Some.ensures.request
    ∙ (sym (request_settings c.job.result.now l.identity)
    ∙ (ap (λ (j : Job). request_of j.conf l.identity) c.job.ensures.settings ∙ ap (λ o. life_request c.args.start.now.settings.conf (option_copied o)) (sym c.in-Some.is)))

pub returns-in_ok-request-in-Some-clause-fetched : goal.returns-in_ok-request-in-Some-clause-fetched
returns-in_ok-request-in-Some-clause-fetched c =
    subst (λ o. IfSome o (λ r. MayFetch r)) (sym c.in_ok-request-in-Some.ensures.request)
    (may_fetch c.job.result.now.conf c.in-Some.life.now.identity c.job.ensures.bounded)
