use Rattle.std.proofs.Common.{◌≡◌, ◌<◌, ◌≤◌, List, [], length, get_or, sym, ap, ◌∙◌, subst, arith}
use Rattle.std.specs.Prelude.{Option, Some, None, IfOk}
use Rattle.std.specs.Option.{option_map_or}
use Rattle.report_samples.specs.declared.entries.Entry.{Entry}
use Rattle.end_of_run.specs.Endings.{EndingView, EndingsView, ending_of, entries_left, life_entries}
use Rattle.end_of_run.proofs.EndingLemmas.{none_there, place, there}
use Rattle.end_of_run.proofs.endings.Endings.entries.Goals as goal

pub returns-in-Some : goal.returns-in-Some
returns-in-Some c =
    let es = c.self.inside.endings.items in
    let e = c.in-Some.ending.now in
    let seen : es ≡ c.args.self.now.endings = ap (λ (v : EndingsView). v.endings) c.self.view_is in
    let at : c.place_of.result ≡ place c.args.life es = c.place_of.ensures.value ∙ ap (place c.args.life) c.deref-2.ensures.value in
    let low : c.place_of.result < length es = omega (arith, c.in-Some.ensures.lookup, c.self.inside.endings.ok.0) in
    let here : e ≡ get_or es c.place_of.result e =
    c.in-Some.ensures.lookup.1 ∙ ap (λ (l : List EndingView). get_or l c.place_of.result e) c.deref.ensures.value in
    let is : ending_of c.args.life c.args.self.now.endings ≡ Some e =
    ap (ending_of c.args.life) (sym seen) ∙ there c.args.life es c.place_of.result e at low here in
    let given : entries_left e ≡ life_entries c.args.life c.args.self.now.endings =
    ap (λ (o : Option EndingView). option_map_or entries_left o []) (sym is) in
    subst (λ (l : List Entry). IfOk c.entries.result (λ (m : List Entry). m ≡ l)) given c.entries.ensures

pub returns-in-None : goal.returns-in-None
returns-in-None c =
    let es = c.self.inside.endings.items in
    let seen : es ≡ c.args.self.now.endings = ap (λ (v : EndingsView). v.endings) c.self.view_is in
    let at : c.place_of.result ≡ place c.args.life es = c.place_of.ensures.value ∙ ap (place c.args.life) c.deref-2.ensures.value in
    let past : length es ≤ c.place_of.result = omega (arith, c.in-None.ensures.lookup, c.self.inside.endings.ok.0) in
    let none : ending_of c.args.life c.args.self.now.endings ≡ None =
    ap (ending_of c.args.life) (sym seen) ∙ none_there c.args.life es c.place_of.result at past in
    c.new.ensures.items ∙ ap (λ (o : Option EndingView). option_map_or entries_left o []) (sym none)
