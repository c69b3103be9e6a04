-- Regular expressions may go to other threads and be shared by them, part by part.
use denote.Param.Send.{IsSend, IsSync, sendable}
use denote.Param.SendFields.{declared_send, declared_sync}
use Rattle.std.proofs.Crossing.{crosses}
use Rattle.std.proofs.MapsCrossing as maps
use Rattle.regex.specs.contracts.pattern.Pattern as Pattern
use Rattle.regex.specs.contracts.string.regex.Regex as Regex
use Rattle.regex_class.specs.contracts.Class as Class
use Rattle.regex_dfa.specs.contracts.dfa.Dfa as Dfa
use Rattle.regex_dfa.specs.contracts.kinds.Needs as Needs
use Rattle.regex_dfa.specs.contracts.preds.Preds as Preds
use Rattle.regex_extract.specs.contracts.frames.Frame as Frame
use Rattle.regex_hir.proofs.hir.Hir.TheLaws.TheKnot as knot
use Rattle.regex_hir.specs.contracts.hir.Hir as Hir
use Rattle.regex_hir.specs.contracts.look.Look as Look
use Rattle.regex_literal.specs.contracts.byte_set.ByteSet as ByteSet
use Rattle.regex_literal.specs.contracts.byte_set.Members as Members
use Rattle.regex_literal.specs.contracts.caseless.Caseless as Caseless
use Rattle.regex_literal.specs.contracts.caseless.Share as Share
use Rattle.regex_literal.specs.contracts.dictionary.Dictionary as Dictionary
use Rattle.regex_literal.specs.contracts.flight.Flight as Flight
use Rattle.regex_literal.specs.contracts.front.Front as Front
use Rattle.regex_literal.specs.contracts.gate.Gate as Gate
use Rattle.regex_literal.specs.contracts.ladder.Ladder as Ladder
use Rattle.regex_literal.specs.contracts.memmem.Finder as Finder
use Rattle.regex_literal.specs.contracts.needles.Needles as Needles
use Rattle.regex_literal.specs.contracts.plan.Outlook as Outlook
use Rattle.regex_literal.specs.contracts.prefilter.Prefilter as Prefilter
use Rattle.regex_literal.specs.contracts.rare.Rare as Rare
use Rattle.regex_literal.specs.contracts.runs.Runs as Runs
use Rattle.regex_literal.specs.contracts.search.Search as Search
use Rattle.regex_literal.specs.contracts.sieve.Sieve as Sieve
use Rattle.regex_literal.specs.contracts.sifter.Sifter as Sifter
use Rattle.regex_literal.specs.contracts.singles.Singles as Singles
use Rattle.regex_literal.specs.contracts.strider.Strider as Strider
use Rattle.regex_literal.specs.contracts.tables.Folds as Folds
use Rattle.regex_literal.specs.contracts.tables.Masks as Masks
use Rattle.regex_meta.specs.contracts.plan.Plan as Plan
use Rattle.regex_meta.specs.contracts.plan.Plans as Plans
use Rattle.regex_meta.specs.contracts.plan.Role as Role
use Rattle.regex_meta.specs.contracts.program.Program as Program
use Rattle.regex_meta.specs.contracts.signs.Signs as Signs
use Rattle.regex_nfa.specs.contracts.nfa.Nfa as Nfa
use Rattle.regex_nfa.specs.contracts.state.State as State
use Rattle.regex_nfa.specs.contracts.state.Transition as Transition
use Rattle.regex_syntax.specs.contracts.Config as Config
use Rattle.regex_syntax.specs.contracts.flags.Flags as Flags

pub class_send : IsSend Class.the_row
class_send = search (sendable, crosses) depth 60 fits 10000

pub class_sync : IsSync Class.the_row
class_sync = search (sendable, crosses) depth 60 fits 10000

pub look_send : IsSend Look.the_row
look_send = search (class_send, class_sync, sendable, crosses) depth 60 fits 10000

pub look_sync : IsSync Look.the_row
look_sync = search (class_send, class_sync, sendable, crosses) depth 60 fits 10000

pub hir_send : IsSend Hir.the_row
hir_send = search (knot.crosses, class_send, class_sync, look_send, look_sync, sendable, crosses) depth 60 fits 10000

pub hir_sync : IsSync Hir.the_row
hir_sync = search (knot.crosses, class_send, class_sync, look_send, look_sync, sendable, crosses) depth 60 fits 10000

pub transition_send : IsSend Transition.the_row
transition_send = search (class_send, class_sync, look_send, look_sync, hir_send, hir_sync, sendable, crosses) depth 60 fits 10000

pub transition_sync : IsSync Transition.the_row
transition_sync = search (class_send, class_sync, look_send, look_sync, hir_send, hir_sync, sendable, crosses) depth 60 fits 10000

pub state_send : IsSend State.the_row
state_send = search (class_send, class_sync, look_send, look_sync, hir_send, hir_sync, transition_send, transition_sync, sendable, crosses) depth 60 fits 10000

pub state_sync : IsSync State.the_row
state_sync = search (class_send, class_sync, look_send, look_sync, hir_send, hir_sync, transition_send, transition_sync, sendable, crosses) depth 60 fits 10000

pub nfa_send : IsSend Nfa.the_row
nfa_send = search (class_send, class_sync, look_send, look_sync, hir_send, hir_sync, transition_send, transition_sync, state_send, state_sync, sendable, crosses) depth 60 fits 10000

pub nfa_sync : IsSync Nfa.the_row
nfa_sync = search (class_send, class_sync, look_send, look_sync, hir_send, hir_sync, transition_send, transition_sync, state_send, state_sync, sendable, crosses) depth 60 fits 10000

pub needs_send : IsSend Needs.the_row
needs_send = search (class_send, class_sync, look_send, look_sync, hir_send, hir_sync, transition_send, transition_sync, state_send, state_sync, nfa_send, nfa_sync, sendable, crosses) depth 60 fits 10000

pub needs_sync : IsSync Needs.the_row
needs_sync = search (class_send, class_sync, look_send, look_sync, hir_send, hir_sync, transition_send, transition_sync, state_send, state_sync, nfa_send, nfa_sync, sendable, crosses) depth 60 fits 10000

pub preds_send : IsSend Preds.the_row
preds_send = search (class_send, class_sync, look_send, look_sync, hir_send, hir_sync, transition_send, transition_sync, state_send, state_sync, nfa_send, nfa_sync, needs_send, needs_sync, sendable, crosses) depth 60 fits 10000

pub preds_sync : IsSync Preds.the_row
preds_sync = search (class_send, class_sync, look_send, look_sync, hir_send, hir_sync, transition_send, transition_sync, state_send, state_sync, nfa_send, nfa_sync, needs_send, needs_sync, sendable, crosses) depth 60 fits 10000

pub dfa_send : IsSend Dfa.the_row
dfa_send = search (class_send, class_sync, look_send, look_sync, hir_send, hir_sync, transition_send, transition_sync, state_send, state_sync, nfa_send, nfa_sync, needs_send, needs_sync, preds_send, preds_sync, sendable, crosses) depth 60 fits 10000

pub dfa_sync : IsSync Dfa.the_row
dfa_sync = search (class_send, class_sync, look_send, look_sync, hir_send, hir_sync, transition_send, transition_sync, state_send, state_sync, nfa_send, nfa_sync, needs_send, needs_sync, preds_send, preds_sync, sendable, crosses) depth 60 fits 10000

pub members_send : IsSend Members.the_row
members_send = search (class_send, class_sync, look_send, look_sync, hir_send, hir_sync, transition_send, transition_sync, state_send, state_sync, nfa_send, nfa_sync, needs_send, needs_sync, preds_send, preds_sync, dfa_send, dfa_sync, sendable, crosses) depth 60 fits 10000

pub members_sync : IsSync Members.the_row
members_sync = search (class_send, class_sync, look_send, look_sync, hir_send, hir_sync, transition_send, transition_sync, state_send, state_sync, nfa_send, nfa_sync, needs_send, needs_sync, preds_send, preds_sync, dfa_send, dfa_sync, sendable, crosses) depth 60 fits 10000

pub byteset_send : IsSend ByteSet.the_row
byteset_send = search (class_send, class_sync, look_send, look_sync, hir_send, hir_sync, transition_send, transition_sync, state_send, state_sync, nfa_send, nfa_sync, needs_send, needs_sync, preds_send, preds_sync, dfa_send, dfa_sync, members_send, members_sync, sendable, crosses) depth 60 fits 10000

pub byteset_sync : IsSync ByteSet.the_row
byteset_sync = search (class_send, class_sync, look_send, look_sync, hir_send, hir_sync, transition_send, transition_sync, state_send, state_sync, nfa_send, nfa_sync, needs_send, needs_sync, preds_send, preds_sync, dfa_send, dfa_sync, members_send, members_sync, sendable, crosses) depth 60 fits 10000

pub front_send : IsSend Front.the_row
front_send = search (class_send, class_sync, look_send, look_sync, hir_send, hir_sync, transition_send, transition_sync, state_send, state_sync, nfa_send, nfa_sync, needs_send, needs_sync, preds_send, preds_sync, dfa_send, dfa_sync, members_send, members_sync, byteset_send, byteset_sync, sendable, crosses) depth 60 fits 10000

pub front_sync : IsSync Front.the_row
front_sync = search (class_send, class_sync, look_send, look_sync, hir_send, hir_sync, transition_send, transition_sync, state_send, state_sync, nfa_send, nfa_sync, needs_send, needs_sync, preds_send, preds_sync, dfa_send, dfa_sync, members_send, members_sync, byteset_send, byteset_sync, sendable, crosses) depth 60 fits 10000

pub needles_send : IsSend Needles.the_row
needles_send = search (class_send, class_sync, look_send, look_sync, hir_send, hir_sync, transition_send, transition_sync, state_send, state_sync, nfa_send, nfa_sync, needs_send, needs_sync, preds_send, preds_sync, dfa_send, dfa_sync, members_send, members_sync, byteset_send, byteset_sync, front_send, front_sync, sendable, crosses) depth 60 fits 10000

pub needles_sync : IsSync Needles.the_row
needles_sync = search (class_send, class_sync, look_send, look_sync, hir_send, hir_sync, transition_send, transition_sync, state_send, state_sync, nfa_send, nfa_sync, needs_send, needs_sync, preds_send, preds_sync, dfa_send, dfa_sync, members_send, members_sync, byteset_send, byteset_sync, front_send, front_sync, sendable, crosses) depth 60 fits 10000

pub dictionary_send : IsSend Dictionary.the_row
dictionary_send = search (class_send, class_sync, look_send, look_sync, hir_send, hir_sync, transition_send, transition_sync, state_send, state_sync, nfa_send, nfa_sync, needs_send, needs_sync, preds_send, preds_sync, dfa_send, dfa_sync, members_send, members_sync, byteset_send, byteset_sync, front_send, front_sync, needles_send, needles_sync, sendable, crosses) depth 60 fits 10000

pub dictionary_sync : IsSync Dictionary.the_row
dictionary_sync = search (class_send, class_sync, look_send, look_sync, hir_send, hir_sync, transition_send, transition_sync, state_send, state_sync, nfa_send, nfa_sync, needs_send, needs_sync, preds_send, preds_sync, dfa_send, dfa_sync, members_send, members_sync, byteset_send, byteset_sync, front_send, front_sync, needles_send, needles_sync, sendable, crosses) depth 60 fits 10000

pub masks_send : IsSend Masks.the_row
masks_send = search (class_send, class_sync, look_send, look_sync, hir_send, hir_sync, transition_send, transition_sync, state_send, state_sync, nfa_send, nfa_sync, needs_send, needs_sync, preds_send, preds_sync, dfa_send, dfa_sync, members_send, members_sync, byteset_send, byteset_sync, front_send, front_sync, needles_send, needles_sync, dictionary_send, dictionary_sync, sendable, crosses) depth 60 fits 10000

pub masks_sync : IsSync Masks.the_row
masks_sync = search (class_send, class_sync, look_send, look_sync, hir_send, hir_sync, transition_send, transition_sync, state_send, state_sync, nfa_send, nfa_sync, needs_send, needs_sync, preds_send, preds_sync, dfa_send, dfa_sync, members_send, members_sync, byteset_send, byteset_sync, front_send, front_sync, needles_send, needles_sync, dictionary_send, dictionary_sync, sendable, crosses) depth 60 fits 10000

pub runs_send : IsSend Runs.the_row
runs_send = search (look_send, look_sync, hir_send, hir_sync, transition_send, transition_sync, state_send, state_sync, nfa_send, nfa_sync, needs_send, needs_sync, preds_send, preds_sync, dfa_send, dfa_sync, members_send, members_sync, byteset_send, byteset_sync, front_send, front_sync, needles_send, needles_sync, dictionary_send, dictionary_sync, masks_send, masks_sync, sendable, crosses) depth 60 fits 10000

pub runs_sync : IsSync Runs.the_row
runs_sync = search (look_send, look_sync, hir_send, hir_sync, transition_send, transition_sync, state_send, state_sync, nfa_send, nfa_sync, needs_send, needs_sync, preds_send, preds_sync, dfa_send, dfa_sync, members_send, members_sync, byteset_send, byteset_sync, front_send, front_sync, needles_send, needles_sync, dictionary_send, dictionary_sync, masks_send, masks_sync, sendable, crosses) depth 60 fits 10000

pub flight_send : IsSend Flight.the_row
flight_send = search (hir_send, hir_sync, transition_send, transition_sync, state_send, state_sync, nfa_send, nfa_sync, needs_send, needs_sync, preds_send, preds_sync, dfa_send, dfa_sync, members_send, members_sync, byteset_send, byteset_sync, front_send, front_sync, needles_send, needles_sync, dictionary_send, dictionary_sync, masks_send, masks_sync, runs_send, runs_sync, sendable, crosses) depth 60 fits 10000

pub flight_sync : IsSync Flight.the_row
flight_sync = search (hir_send, hir_sync, transition_send, transition_sync, state_send, state_sync, nfa_send, nfa_sync, needs_send, needs_sync, preds_send, preds_sync, dfa_send, dfa_sync, members_send, members_sync, byteset_send, byteset_sync, front_send, front_sync, needles_send, needles_sync, dictionary_send, dictionary_sync, masks_send, masks_sync, runs_send, runs_sync, sendable, crosses) depth 60 fits 10000

pub gate_send : IsSend Gate.the_row
gate_send = search (transition_send, transition_sync, state_send, state_sync, nfa_send, nfa_sync, needs_send, needs_sync, preds_send, preds_sync, dfa_send, dfa_sync, members_send, members_sync, byteset_send, byteset_sync, front_send, front_sync, needles_send, needles_sync, dictionary_send, dictionary_sync, masks_send, masks_sync, runs_send, runs_sync, flight_send, flight_sync, sendable, crosses) depth 60 fits 10000

pub gate_sync : IsSync Gate.the_row
gate_sync = search (transition_send, transition_sync, state_send, state_sync, nfa_send, nfa_sync, needs_send, needs_sync, preds_send, preds_sync, dfa_send, dfa_sync, members_send, members_sync, byteset_send, byteset_sync, front_send, front_sync, needles_send, needles_sync, dictionary_send, dictionary_sync, masks_send, masks_sync, runs_send, runs_sync, flight_send, flight_sync, sendable, crosses) depth 60 fits 10000

pub ladder_send : IsSend Ladder.the_row
ladder_send = search (state_send, state_sync, nfa_send, nfa_sync, needs_send, needs_sync, preds_send, preds_sync, dfa_send, dfa_sync, members_send, members_sync, byteset_send, byteset_sync, front_send, front_sync, needles_send, needles_sync, dictionary_send, dictionary_sync, masks_send, masks_sync, runs_send, runs_sync, flight_send, flight_sync, gate_send, gate_sync, sendable, crosses) depth 60 fits 10000

pub ladder_sync : IsSync Ladder.the_row
ladder_sync = search (state_send, state_sync, nfa_send, nfa_sync, needs_send, needs_sync, preds_send, preds_sync, dfa_send, dfa_sync, members_send, members_sync, byteset_send, byteset_sync, front_send, front_sync, needles_send, needles_sync, dictionary_send, dictionary_sync, masks_send, masks_sync, runs_send, runs_sync, flight_send, flight_sync, gate_send, gate_sync, sendable, crosses) depth 60 fits 10000

pub rare_send : IsSend Rare.the_row
rare_send = search (nfa_send, nfa_sync, needs_send, needs_sync, preds_send, preds_sync, dfa_send, dfa_sync, members_send, members_sync, byteset_send, byteset_sync, front_send, front_sync, needles_send, needles_sync, dictionary_send, dictionary_sync, masks_send, masks_sync, runs_send, runs_sync, flight_send, flight_sync, gate_send, gate_sync, ladder_send, ladder_sync, sendable, crosses) depth 60 fits 10000

pub rare_sync : IsSync Rare.the_row
rare_sync = search (nfa_send, nfa_sync, needs_send, needs_sync, preds_send, preds_sync, dfa_send, dfa_sync, members_send, members_sync, byteset_send, byteset_sync, front_send, front_sync, needles_send, needles_sync, dictionary_send, dictionary_sync, masks_send, masks_sync, runs_send, runs_sync, flight_send, flight_sync, gate_send, gate_sync, ladder_send, ladder_sync, sendable, crosses) depth 60 fits 10000

pub finder_send : IsSend Finder.the_row
finder_send = search (needs_send, needs_sync, preds_send, preds_sync, dfa_send, dfa_sync, members_send, members_sync, byteset_send, byteset_sync, front_send, front_sync, needles_send, needles_sync, dictionary_send, dictionary_sync, masks_send, masks_sync, runs_send, runs_sync, flight_send, flight_sync, gate_send, gate_sync, ladder_send, ladder_sync, rare_send, rare_sync, sendable, crosses) depth 60 fits 10000

pub finder_sync : IsSync Finder.the_row
finder_sync = search (needs_send, needs_sync, preds_send, preds_sync, dfa_send, dfa_sync, members_send, members_sync, byteset_send, byteset_sync, front_send, front_sync, needles_send, needles_sync, dictionary_send, dictionary_sync, masks_send, masks_sync, runs_send, runs_sync, flight_send, flight_sync, gate_send, gate_sync, ladder_send, ladder_sync, rare_send, rare_sync, sendable, crosses) depth 60 fits 10000

pub singles_send : IsSend Singles.the_row
singles_send = search (preds_send, preds_sync, dfa_send, dfa_sync, members_send, members_sync, byteset_send, byteset_sync, front_send, front_sync, needles_send, needles_sync, dictionary_send, dictionary_sync, masks_send, masks_sync, runs_send, runs_sync, flight_send, flight_sync, gate_send, gate_sync, ladder_send, ladder_sync, rare_send, rare_sync, finder_send, finder_sync, sendable, crosses) depth 60 fits 10000

pub singles_sync : IsSync Singles.the_row
singles_sync = search (preds_send, preds_sync, dfa_send, dfa_sync, members_send, members_sync, byteset_send, byteset_sync, front_send, front_sync, needles_send, needles_sync, dictionary_send, dictionary_sync, masks_send, masks_sync, runs_send, runs_sync, flight_send, flight_sync, gate_send, gate_sync, ladder_send, ladder_sync, rare_send, rare_sync, finder_send, finder_sync, sendable, crosses) depth 60 fits 10000

pub folds_send : IsSend Folds.the_row
folds_send = search (dfa_send, dfa_sync, members_send, members_sync, byteset_send, byteset_sync, front_send, front_sync, needles_send, needles_sync, dictionary_send, dictionary_sync, masks_send, masks_sync, runs_send, runs_sync, flight_send, flight_sync, gate_send, gate_sync, ladder_send, ladder_sync, rare_send, rare_sync, finder_send, finder_sync, singles_send, singles_sync, sendable, crosses) depth 60 fits 10000

pub folds_sync : IsSync Folds.the_row
folds_sync = search (dfa_send, dfa_sync, members_send, members_sync, byteset_send, byteset_sync, front_send, front_sync, needles_send, needles_sync, dictionary_send, dictionary_sync, masks_send, masks_sync, runs_send, runs_sync, flight_send, flight_sync, gate_send, gate_sync, ladder_send, ladder_sync, rare_send, rare_sync, finder_send, finder_sync, singles_send, singles_sync, sendable, crosses) depth 60 fits 10000

pub sieve_send : IsSend Sieve.the_row
sieve_send = search (members_send, members_sync, byteset_send, byteset_sync, front_send, front_sync, needles_send, needles_sync, dictionary_send, dictionary_sync, masks_send, masks_sync, runs_send, runs_sync, flight_send, flight_sync, gate_send, gate_sync, ladder_send, ladder_sync, rare_send, rare_sync, finder_send, finder_sync, singles_send, singles_sync, folds_send, folds_sync, sendable, crosses) depth 60 fits 10000

pub sieve_sync : IsSync Sieve.the_row
sieve_sync = search (members_send, members_sync, byteset_send, byteset_sync, front_send, front_sync, needles_send, needles_sync, dictionary_send, dictionary_sync, masks_send, masks_sync, runs_send, runs_sync, flight_send, flight_sync, gate_send, gate_sync, ladder_send, ladder_sync, rare_send, rare_sync, finder_send, finder_sync, singles_send, singles_sync, folds_send, folds_sync, sendable, crosses) depth 60 fits 10000

pub outlook_send : IsSend Outlook.the_row
outlook_send = search (byteset_send, byteset_sync, front_send, front_sync, needles_send, needles_sync, dictionary_send, dictionary_sync, masks_send, masks_sync, runs_send, runs_sync, flight_send, flight_sync, gate_send, gate_sync, ladder_send, ladder_sync, rare_send, rare_sync, finder_send, finder_sync, singles_send, singles_sync, folds_send, folds_sync, sieve_send, sieve_sync, sendable, crosses) depth 60 fits 10000

pub outlook_sync : IsSync Outlook.the_row
outlook_sync = search (byteset_send, byteset_sync, front_send, front_sync, needles_send, needles_sync, dictionary_send, dictionary_sync, masks_send, masks_sync, runs_send, runs_sync, flight_send, flight_sync, gate_send, gate_sync, ladder_send, ladder_sync, rare_send, rare_sync, finder_send, finder_sync, singles_send, singles_sync, folds_send, folds_sync, sieve_send, sieve_sync, sendable, crosses) depth 60 fits 10000

pub sifter_send : IsSend Sifter.the_row
sifter_send = search (front_send, front_sync, needles_send, needles_sync, dictionary_send, dictionary_sync, masks_send, masks_sync, runs_send, runs_sync, flight_send, flight_sync, gate_send, gate_sync, ladder_send, ladder_sync, rare_send, rare_sync, finder_send, finder_sync, singles_send, singles_sync, folds_send, folds_sync, sieve_send, sieve_sync, outlook_send, outlook_sync, sendable, crosses) depth 60 fits 10000

pub sifter_sync : IsSync Sifter.the_row
sifter_sync = search (front_send, front_sync, needles_send, needles_sync, dictionary_send, dictionary_sync, masks_send, masks_sync, runs_send, runs_sync, flight_send, flight_sync, gate_send, gate_sync, ladder_send, ladder_sync, rare_send, rare_sync, finder_send, finder_sync, singles_send, singles_sync, folds_send, folds_sync, sieve_send, sieve_sync, outlook_send, outlook_sync, sendable, crosses) depth 60 fits 10000

pub strider_send : IsSend Strider.the_row
strider_send = search (needles_send, needles_sync, dictionary_send, dictionary_sync, masks_send, masks_sync, runs_send, runs_sync, flight_send, flight_sync, gate_send, gate_sync, ladder_send, ladder_sync, rare_send, rare_sync, finder_send, finder_sync, singles_send, singles_sync, folds_send, folds_sync, sieve_send, sieve_sync, outlook_send, outlook_sync, sifter_send, sifter_sync, sendable, crosses) depth 60 fits 10000

pub strider_sync : IsSync Strider.the_row
strider_sync = search (needles_send, needles_sync, dictionary_send, dictionary_sync, masks_send, masks_sync, runs_send, runs_sync, flight_send, flight_sync, gate_send, gate_sync, ladder_send, ladder_sync, rare_send, rare_sync, finder_send, finder_sync, singles_send, singles_sync, folds_send, folds_sync, sieve_send, sieve_sync, outlook_send, outlook_sync, sifter_send, sifter_sync, sendable, crosses) depth 60 fits 10000

pub search_send : IsSend Search.the_row
search_send = search (dictionary_send, dictionary_sync, masks_send, masks_sync, runs_send, runs_sync, flight_send, flight_sync, gate_send, gate_sync, ladder_send, ladder_sync, rare_send, rare_sync, finder_send, finder_sync, singles_send, singles_sync, folds_send, folds_sync, sieve_send, sieve_sync, outlook_send, outlook_sync, sifter_send, sifter_sync, strider_send, strider_sync, sendable, crosses) depth 60 fits 10000

pub search_sync : IsSync Search.the_row
search_sync = search (dictionary_send, dictionary_sync, masks_send, masks_sync, runs_send, runs_sync, flight_send, flight_sync, gate_send, gate_sync, ladder_send, ladder_sync, rare_send, rare_sync, finder_send, finder_sync, singles_send, singles_sync, folds_send, folds_sync, sieve_send, sieve_sync, outlook_send, outlook_sync, sifter_send, sifter_sync, strider_send, strider_sync, sendable, crosses) depth 60 fits 10000

pub prefilter_send : IsSend Prefilter.the_row
prefilter_send = search (masks_send, masks_sync, runs_send, runs_sync, flight_send, flight_sync, gate_send, gate_sync, ladder_send, ladder_sync, rare_send, rare_sync, finder_send, finder_sync, singles_send, singles_sync, folds_send, folds_sync, sieve_send, sieve_sync, outlook_send, outlook_sync, sifter_send, sifter_sync, strider_send, strider_sync, search_send, search_sync, sendable, crosses) depth 60 fits 10000

pub prefilter_sync : IsSync Prefilter.the_row
prefilter_sync = search (masks_send, masks_sync, runs_send, runs_sync, flight_send, flight_sync, gate_send, gate_sync, ladder_send, ladder_sync, rare_send, rare_sync, finder_send, finder_sync, singles_send, singles_sync, folds_send, folds_sync, sieve_send, sieve_sync, outlook_send, outlook_sync, sifter_send, sifter_sync, strider_send, strider_sync, search_send, search_sync, sendable, crosses) depth 60 fits 10000

pub share_send : IsSend Share.the_row
share_send = search (runs_send, runs_sync, flight_send, flight_sync, gate_send, gate_sync, ladder_send, ladder_sync, rare_send, rare_sync, finder_send, finder_sync, singles_send, singles_sync, folds_send, folds_sync, sieve_send, sieve_sync, outlook_send, outlook_sync, sifter_send, sifter_sync, strider_send, strider_sync, search_send, search_sync, prefilter_send, prefilter_sync, sendable, crosses) depth 60 fits 10000

pub share_sync : IsSync Share.the_row
share_sync = search (runs_send, runs_sync, flight_send, flight_sync, gate_send, gate_sync, ladder_send, ladder_sync, rare_send, rare_sync, finder_send, finder_sync, singles_send, singles_sync, folds_send, folds_sync, sieve_send, sieve_sync, outlook_send, outlook_sync, sifter_send, sifter_sync, strider_send, strider_sync, search_send, search_sync, prefilter_send, prefilter_sync, sendable, crosses) depth 60 fits 10000

pub caseless_send : IsSend Caseless.the_row
caseless_send = search (flight_send, flight_sync, gate_send, gate_sync, ladder_send, ladder_sync, rare_send, rare_sync, finder_send, finder_sync, singles_send, singles_sync, folds_send, folds_sync, sieve_send, sieve_sync, outlook_send, outlook_sync, sifter_send, sifter_sync, strider_send, strider_sync, search_send, search_sync, prefilter_send, prefilter_sync, share_send, share_sync, sendable, crosses) depth 60 fits 10000

pub caseless_sync : IsSync Caseless.the_row
caseless_sync = search (flight_send, flight_sync, gate_send, gate_sync, ladder_send, ladder_sync, rare_send, rare_sync, finder_send, finder_sync, singles_send, singles_sync, folds_send, folds_sync, sieve_send, sieve_sync, outlook_send, outlook_sync, sifter_send, sifter_sync, strider_send, strider_sync, search_send, search_sync, prefilter_send, prefilter_sync, share_send, share_sync, sendable, crosses) depth 60 fits 10000

pub frame_send : IsSend Frame.the_row
frame_send = search (gate_send, gate_sync, ladder_send, ladder_sync, rare_send, rare_sync, finder_send, finder_sync, singles_send, singles_sync, folds_send, folds_sync, sieve_send, sieve_sync, outlook_send, outlook_sync, sifter_send, sifter_sync, strider_send, strider_sync, search_send, search_sync, prefilter_send, prefilter_sync, share_send, share_sync, caseless_send, caseless_sync, sendable, crosses) depth 60 fits 10000

pub frame_sync : IsSync Frame.the_row
frame_sync = search (gate_send, gate_sync, ladder_send, ladder_sync, rare_send, rare_sync, finder_send, finder_sync, singles_send, singles_sync, folds_send, folds_sync, sieve_send, sieve_sync, outlook_send, outlook_sync, sifter_send, sifter_sync, strider_send, strider_sync, search_send, search_sync, prefilter_send, prefilter_sync, share_send, share_sync, caseless_send, caseless_sync, sendable, crosses) depth 60 fits 10000

pub role_send : IsSend Role.the_row
role_send = search (ladder_send, ladder_sync, rare_send, rare_sync, finder_send, finder_sync, singles_send, singles_sync, folds_send, folds_sync, sieve_send, sieve_sync, outlook_send, outlook_sync, sifter_send, sifter_sync, strider_send, strider_sync, search_send, search_sync, prefilter_send, prefilter_sync, share_send, share_sync, caseless_send, caseless_sync, frame_send, frame_sync, sendable, crosses) depth 60 fits 10000

pub role_sync : IsSync Role.the_row
role_sync = search (ladder_send, ladder_sync, rare_send, rare_sync, finder_send, finder_sync, singles_send, singles_sync, folds_send, folds_sync, sieve_send, sieve_sync, outlook_send, outlook_sync, sifter_send, sifter_sync, strider_send, strider_sync, search_send, search_sync, prefilter_send, prefilter_sync, share_send, share_sync, caseless_send, caseless_sync, frame_send, frame_sync, sendable, crosses) depth 60 fits 10000

pub plan_send : IsSend Plan.the_row
plan_send = search (role_send, role_sync, prefilter_send, prefilter_sync, frame_send, frame_sync, hir_send, hir_sync, ladder_send, ladder_sync, sendable, crosses) depth 60 fits 10000

pub plan_sync : IsSync Plan.the_row
plan_sync = search (role_send, role_sync, prefilter_send, prefilter_sync, frame_send, frame_sync, hir_send, hir_sync, ladder_send, ladder_sync, sendable, crosses) depth 60 fits 10000

pub plans_send : IsSend Plans.the_row
plans_send = search (finder_send, finder_sync, singles_send, singles_sync, folds_send, folds_sync, sieve_send, sieve_sync, outlook_send, outlook_sync, sifter_send, sifter_sync, strider_send, strider_sync, search_send, search_sync, prefilter_send, prefilter_sync, share_send, share_sync, caseless_send, caseless_sync, frame_send, frame_sync, role_send, role_sync, plan_send, plan_sync, sendable, crosses) depth 60 fits 10000

pub plans_sync : IsSync Plans.the_row
plans_sync = search (finder_send, finder_sync, singles_send, singles_sync, folds_send, folds_sync, sieve_send, sieve_sync, outlook_send, outlook_sync, sifter_send, sifter_sync, strider_send, strider_sync, search_send, search_sync, prefilter_send, prefilter_sync, share_send, share_sync, caseless_send, caseless_sync, frame_send, frame_sync, role_send, role_sync, plan_send, plan_sync, sendable, crosses) depth 60 fits 10000

pub signs_send : IsSend Signs.the_row
signs_send = search (caseless_send, caseless_sync, hir_send, hir_sync, sendable, crosses) depth 60 fits 10000

pub signs_sync : IsSync Signs.the_row
signs_sync = search (caseless_send, caseless_sync, hir_send, hir_sync, sendable, crosses) depth 60 fits 10000

pub program_send : IsSend Program.the_row
program_send = declared_send Program.the_type (hir_send, (dfa_send, (plans_send, (search (signs_send, signs_sync, sendable, crosses) depth 40, (search (byteset_send, byteset_sync, sendable, crosses) depth 40, (search (sendable, crosses) depth 40, (search (sendable, crosses) depth 40, (search (sendable, crosses) depth 40, tt))))))))

pub program_sync : IsSync Program.the_row
program_sync = declared_sync Program.the_type (hir_sync, (dfa_sync, (plans_sync, (search (signs_send, signs_sync, sendable, crosses) depth 40, (search (byteset_send, byteset_sync, sendable, crosses) depth 40, (search (sendable, crosses) depth 40, (search (sendable, crosses) depth 40, (search (sendable, crosses) depth 40, tt))))))))

pub flags_send : IsSend Flags.the_row
flags_send = search (sieve_send, sieve_sync, outlook_send, outlook_sync, sifter_send, sifter_sync, strider_send, strider_sync, search_send, search_sync, prefilter_send, prefilter_sync, share_send, share_sync, caseless_send, caseless_sync, frame_send, frame_sync, role_send, role_sync, plan_send, plan_sync, plans_send, plans_sync, signs_send, signs_sync, program_send, program_sync, sendable, crosses) depth 60 fits 10000

pub flags_sync : IsSync Flags.the_row
flags_sync = search (sieve_send, sieve_sync, outlook_send, outlook_sync, sifter_send, sifter_sync, strider_send, strider_sync, search_send, search_sync, prefilter_send, prefilter_sync, share_send, share_sync, caseless_send, caseless_sync, frame_send, frame_sync, role_send, role_sync, plan_send, plan_sync, plans_send, plans_sync, signs_send, signs_sync, program_send, program_sync, sendable, crosses) depth 60 fits 10000

pub config_send : IsSend Config.the_row
config_send = search (outlook_send, outlook_sync, sifter_send, sifter_sync, strider_send, strider_sync, search_send, search_sync, prefilter_send, prefilter_sync, share_send, share_sync, caseless_send, caseless_sync, frame_send, frame_sync, role_send, role_sync, plan_send, plan_sync, plans_send, plans_sync, signs_send, signs_sync, program_send, program_sync, flags_send, flags_sync, sendable, crosses) depth 60 fits 10000

pub config_sync : IsSync Config.the_row
config_sync = search (outlook_send, outlook_sync, sifter_send, sifter_sync, strider_send, strider_sync, search_send, search_sync, prefilter_send, prefilter_sync, share_send, share_sync, caseless_send, caseless_sync, frame_send, frame_sync, role_send, role_sync, plan_send, plan_sync, plans_send, plans_sync, signs_send, signs_sync, program_send, program_sync, flags_send, flags_sync, sendable, crosses) depth 60 fits 10000

pub pattern_send : IsSend Pattern.the_row
pattern_send = declared_send Pattern.the_type (maps.String-send, (config_send, (search (maps.crosses, sendable, crosses) depth 40, (program_send, tt))))

pub pattern_sync : IsSync Pattern.the_row
pattern_sync = declared_sync Pattern.the_type (maps.String-sync, (config_sync, (search (maps.crosses, sendable, crosses) depth 40, (program_sync, tt))))

pub regex_send : IsSend Regex.the_row
regex_send = declared_send Regex.the_type (pattern_send, tt)

pub regex_sync : IsSync Regex.the_row
regex_sync = declared_sync Regex.the_type (pattern_sync, tt)
