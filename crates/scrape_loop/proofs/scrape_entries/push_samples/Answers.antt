use Rattle.std.proofs.Common.{◌≡◌, ◌∙◌, ◌++◌, ◌∷◌, [], List, map, ap, append_assoc, sym, to_z, of_z, w64}
use Rattle.std.proofs.lemmas.List.{map-append}
use Rattle.report_samples.specs.declared.entries.Entry.{Entry}
use Rattle.scrape_loop.specs.Entries.{sample_entry}
use Rattle.scrape_loop.proofs.scrape_entries.push_samples.Goals as goal

pub loop-sample-preserved : goal.loop-sample-preserved
loop-sample-preserved c =
    let m = to_z w64 (of_z w64 c.args.moment) in
    let had = c.args.entries.now.items in
    let here = c.in-Some.sample in
    let before : c.reserve-in-loop-sample.new.self.items ≡ had ++ map (sample_entry c.args.life m) c.loop-sample.yielded =
    c.in_ok-reserve-2.ensures.items ∙ c.loop-sample.invariant in
    c.push_reserved.ensures.items ∙ ap (λ (es : List Entry). es ++ c.sample_entry.result ∷ []) before
    ∙ ap (λ (e : Entry). (had ++ map (sample_entry c.args.life m) c.loop-sample.yielded) ++ e ∷ []) c.sample_entry.ensures
    ∙ append_assoc had (map (sample_entry c.args.life m) c.loop-sample.yielded) (sample_entry c.args.life m here ∷ [])
    ∙ ap (λ (es : List Entry). had ++ es) (sym (map-append (sample_entry c.args.life m) c.loop-sample.yielded (here ∷ [])))
