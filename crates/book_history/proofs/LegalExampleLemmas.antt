-- The example of two batches, and the histories behind which answers are refused, are legal, entry by entry.
use Rattle.std.proofs.Common.{◌≡◌, ℕ, true, false, List, [], ◌∷◌, length, Some, None, refl, ap, arith, inl}
use Rattle.std.specs.Prelude.{Option, unwrap_or}
use Rattle.route_values.specs.declared.attrs.WireAttrs.{WireAttrs}
use Rattle.text_forms.specs.Lines.{Line}
use Rattle.update_grammar.specs.ReadAttributes.{raw_at, value_in, attr_of, attrs_in}
use Rattle.update_grammar.specs.ReadPrefixes.{key_at, keys_in}
use Rattle.update_grammar.specs.ReadUpdate.{field_at, effects_of, fields_in, effects_in}
use Rattle.update_grammar.specs.ReadValues.{origin_in, number_in, part_at, path_in}
use Rattle.update_grammar.specs.Steps.{each_of}
use Rattle.update_grammar.specs.Written.{attributes_text}
use Rattle.command_grammar.specs.declared.command.Command.{Command}
use Rattle.config_model.specs.Sections.{Sections}
use Rattle.peer_history.specs.Batches.{NothingLeft, NoKeyLeft}
use Rattle.peer_history.specs.Cuts.{MayCut}
use Rattle.peer_history.specs.Steps.{Step}
use Rattle.peer_history.specs.Steps.Step.{Cut}
use Rattle.peer_history.specs.Steps.Answer.{Message}
use Rattle.peer_history.proofs.LeftLemmas.{none_left}
use Rattle.book_history.specs.BatchExamples.{all_sent, announced_anew}
use Rattle.book_history.specs.Entries.{History}
use Rattle.book_history.specs.Legal.{IsLegal}
use Rattle.book_history.specs.LegalExamples.{AreRead, AreLegal, TwoBatches, RefusalsAreOfLegal}
use Rattle.book_history.specs.PeerSteps.{steps_of}
use Rattle.book_history.specs.ReloadExamples.{own}
use Rattle.book_history.specs.Refusals.{with_static}
use Rattle.book_history.specs.Samples.{one, first, second, bare, with_med, only_ipv4, here, marker, last, more}
use Rattle.book_history.specs.Samples.{announce, done, begun, sent_one}
use Rattle.book_history.proofs.CutLemmas.{Texts, med_sendable, bare_sendable, own_sendable, first_carried}
use Rattle.book_history.proofs.CutLemmas.{second_carried, is_short, marker_stays, key_stays, none_stays}
use Rattle.book_history.proofs.CutLemmas.{at_last, may_send, may_end}
use Rattle.book_history.proofs.StepLemmas.{steps_legal}

-- the MED of a value, or 0
med_of : Option WireAttrs → ℕ
med_of None = 0
med_of (Some w) = unwrap_or w.med 0

-- a message of a slot, that isn't the last
abbrev behind : Sections → List ℕ → History → List Step
behind cfg bytes H = Cut (Message bytes false) ∷ steps_of cfg 0 H

module _ (texts : Texts) (line : Command → Line) (read : AreRead line) where
  begun_legal : IsLegal one begun
  begun_legal = (refl, (refl, (refl, tt)))

  -- two routes, of which the second is announced anew within the batch
  abbrev announced : History
  announced = done line (announce second (with_med 2)) ∷ done line (announce first (with_med 1)) ∷ begun

  announced_legal : IsLegal one announced
  announced_legal = ((read.old_second, inl refl), ((read.old_first, inl refl), begun_legal))

  first_may : MayCut only_ipv4 (steps_of one 0 announced) (here (with_med 1) (first ∷ [])) false
  unfolding attributes_text effects_in effects_of fields_in field_at keys_in key_at attrs_in attr_of raw_at value_in
      origin_in number_in part_at path_in each_of
  first_may =
      may_send texts (steps_of one 0 announced) (with_med 1) first false (med_sendable 1 (omega arith)) first_carried
      (is_short (length (here (with_med 1) (first ∷ []))) 54 refl (omega arith)) refl refl tt
      (marker_stays only_ipv4 (behind one (here (with_med 1) (first ∷ [])) announced) refl)

  anew_legal : IsLegal one (announced_anew line)
  anew_legal = ((read.new_second, inl refl), ((only_ipv4, refl, first_may), announced_legal))

  second_may : MayCut only_ipv4 (steps_of one 0 (announced_anew line)) (here (with_med 2) (second ∷ [])) false
  unfolding med_of attributes_text effects_in effects_of fields_in field_at keys_in key_at attrs_in attr_of raw_at
      value_in origin_in number_in part_at path_in each_of
  second_may =
      may_send texts (steps_of one 0 (announced_anew line)) (with_med 2) second false (med_sendable 2 (omega arith))
      second_carried
      (is_short (length (here (with_med 2) (second ∷ []))) 54 refl (omega arith)) refl refl (record {
        full = λ kind. let e : 1 ≡ 2 = ap (λ w. med_of (Some w)) kind.1 in absurd (omega (arith, e));
        together = λ other. tt;
      })
      (marker_stays only_ipv4 (behind one (here (with_med 2) (second ∷ [])) (announced_anew line)) refl)

  abbrev before_marker : History
  before_marker = more (here (with_med 2) (second ∷ [])) ∷ announced_anew line

  keys_sent : NoKeyLeft only_ipv4 (steps_of one 0 before_marker)
  unfolding attributes_text effects_in effects_of fields_in field_at keys_in key_at attrs_in attr_of raw_at value_in
      origin_in number_in part_at path_in each_of
  keys_sent = none_left texts.grammar only_ipv4 (steps_of one 0 before_marker) (steps_of one 0 announced) refl
      (steps_legal one 0 announced announced_legal) refl refl

  keys_behind : NoKeyLeft only_ipv4 (behind one marker before_marker)
  unfolding attributes_text effects_in effects_of fields_in field_at keys_in key_at attrs_in attr_of raw_at value_in
      origin_in number_in part_at path_in each_of
  keys_behind = none_left texts.grammar only_ipv4 (behind one marker before_marker) (steps_of one 0 announced) refl
      (steps_legal one 0 announced announced_legal) refl refl

  none_behind : NothingLeft only_ipv4 (behind one marker before_marker)
  unfolding attributes_text effects_in effects_of fields_in field_at keys_in key_at attrs_in attr_of raw_at value_in
      origin_in number_in part_at path_in each_of
  none_behind = none_stays only_ipv4 (behind one marker before_marker) keys_behind refl refl

  marker_may : MayCut only_ipv4 (steps_of one 0 before_marker) marker true
  unfolding attributes_text effects_in effects_of fields_in field_at keys_in key_at attrs_in attr_of raw_at value_in
      origin_in number_in part_at path_in each_of
  marker_may =
      may_end texts (steps_of one 0 before_marker) refl keys_sent (is_short (length marker) 23 refl (omega arith))
      (record { full = λ kind. absurd kind; together = λ other. (λ kind. absurd kind, tt) }) none_behind

  whole_legal : IsLegal one (all_sent (announced_anew line))
  whole_legal = ((only_ipv4, refl, marker_may), ((only_ipv4, refl, second_may), anew_legal))

  -- the second batch
  abbrev last_text : List ℕ
  last_text = here (with_med 3) (second ∷ [])

  abbrev one_whole : History
  one_whole = all_sent (announced_anew line)

  anew_sent : NoKeyLeft only_ipv4 (behind one last_text one_whole)
  unfolding attributes_text effects_in effects_of fields_in field_at keys_in key_at attrs_in attr_of raw_at value_in
      origin_in number_in part_at path_in each_of
  anew_sent = none_left texts.grammar only_ipv4 (behind one last_text one_whole) (steps_of one 0 one_whole) refl
      (steps_legal one 0 one_whole whole_legal) refl refl

  none_then : NothingLeft only_ipv4 (behind one last_text one_whole)
  unfolding attributes_text effects_in effects_of fields_in field_at keys_in key_at attrs_in attr_of raw_at value_in
      origin_in number_in part_at path_in each_of
  none_then = none_stays only_ipv4 (behind one last_text one_whole) anew_sent refl refl

  last_may : MayCut only_ipv4 (steps_of one 0 one_whole) (here (with_med 3) (second ∷ [])) true
  unfolding attributes_text effects_in effects_of fields_in field_at keys_in key_at attrs_in attr_of raw_at value_in
      origin_in number_in part_at path_in each_of
  last_may =
      may_send texts (steps_of one 0 one_whole) (with_med 3) second true (med_sendable 3 (omega arith)) second_carried
      (is_short (length (here (with_med 3) (second ∷ []))) 54 refl (omega arith)) refl refl tt
      (at_last only_ipv4 (behind one last_text one_whole) none_then)

  both_legal : IsLegal one (last last_text ∷ one_whole)
  both_legal = ((only_ipv4, refl, last_may), whole_legal)

  keys_at_rest : NoKeyLeft only_ipv4 (steps_of one 0 (last last_text ∷ one_whole))
  unfolding attributes_text effects_in effects_of fields_in field_at keys_in key_at attrs_in attr_of raw_at value_in
      origin_in number_in part_at path_in each_of
  keys_at_rest = none_left texts.grammar only_ipv4 (steps_of one 0 (last last_text ∷ one_whole))
      (steps_of one 0 (last last_text ∷ one_whole)) refl
      (steps_legal one 0 (last last_text ∷ one_whole) both_legal) refl refl

  at_rest : NothingLeft only_ipv4 (steps_of one 0 (last last_text ∷ one_whole))
  unfolding attributes_text effects_in effects_of fields_in field_at keys_in key_at attrs_in attr_of raw_at value_in
      origin_in number_in part_at path_in each_of
  at_rest = none_stays only_ipv4 (steps_of one 0 (last last_text ∷ one_whole)) keys_at_rest refl refl

  -- one route and the marker
  abbrev one_route : History
  one_route = done line (announce first bare) ∷ begun

  route_legal : IsLegal one one_route
  route_legal = ((read.first_bare, inl refl), begun_legal)

  bare_may : MayCut only_ipv4 (steps_of one 0 one_route) (here bare (first ∷ [])) false
  unfolding attributes_text effects_in effects_of fields_in field_at keys_in key_at attrs_in attr_of raw_at value_in
      origin_in number_in part_at path_in each_of
  bare_may =
      may_send texts (steps_of one 0 one_route) bare first false bare_sendable first_carried
      (is_short (length (here bare (first ∷ []))) 47 refl (omega arith)) refl refl tt
      (marker_stays only_ipv4 (behind one (here bare (first ∷ [])) one_route) refl)

  abbrev route_sent : History
  route_sent = more (here bare (first ∷ [])) ∷ one_route

  route_keys : NoKeyLeft only_ipv4 (steps_of one 0 route_sent)
  unfolding attributes_text effects_in effects_of fields_in field_at keys_in key_at attrs_in attr_of raw_at value_in
      origin_in number_in part_at path_in each_of
  route_keys = none_left texts.grammar only_ipv4 (steps_of one 0 route_sent) (steps_of one 0 one_route) refl
      (steps_legal one 0 one_route route_legal) refl refl

  route_keys_behind : NoKeyLeft only_ipv4 (behind one marker route_sent)
  unfolding attributes_text effects_in effects_of fields_in field_at keys_in key_at attrs_in attr_of raw_at value_in
      origin_in number_in part_at path_in each_of
  route_keys_behind = none_left texts.grammar only_ipv4 (behind one marker route_sent) (steps_of one 0 one_route) refl
      (steps_legal one 0 one_route route_legal) refl refl

  route_none : NothingLeft only_ipv4 (behind one marker route_sent)
  unfolding attributes_text effects_in effects_of fields_in field_at keys_in key_at attrs_in attr_of raw_at value_in
      origin_in number_in part_at path_in each_of
  route_none = none_stays only_ipv4 (behind one marker route_sent) route_keys_behind refl refl

  route_marker_may : MayCut only_ipv4 (steps_of one 0 route_sent) marker true
  unfolding attributes_text effects_in effects_of fields_in field_at keys_in key_at attrs_in attr_of raw_at value_in
      origin_in number_in part_at path_in each_of
  route_marker_may =
      may_end texts (steps_of one 0 route_sent) refl route_keys (is_short (length marker) 23 refl (omega arith))
      (record { full = λ kind. absurd kind; together = λ other. tt }) route_none

  sent_one_legal : IsLegal one (sent_one line)
  sent_one_legal = ((only_ipv4, refl, route_marker_may), ((only_ipv4, refl, bare_may), route_legal))

  -- the marker alone
  no_keys : NoKeyLeft only_ipv4 (steps_of one 0 begun)
  unfolding attributes_text effects_in effects_of fields_in field_at keys_in key_at attrs_in attr_of raw_at value_in
      origin_in number_in part_at path_in each_of
  no_keys = none_left texts.grammar only_ipv4 (steps_of one 0 begun) (steps_of one 0 begun) refl
      (steps_legal one 0 begun begun_legal) refl refl

  no_keys_behind : NoKeyLeft only_ipv4 (behind one marker begun)
  unfolding attributes_text effects_in effects_of fields_in field_at keys_in key_at attrs_in attr_of raw_at value_in
      origin_in number_in part_at path_in each_of
  no_keys_behind = none_left texts.grammar only_ipv4 (behind one marker begun) (steps_of one 0 begun) refl
      (steps_legal one 0 begun begun_legal) refl refl

  none_at_first : NothingLeft only_ipv4 (behind one marker begun)
  unfolding attributes_text effects_in effects_of fields_in field_at keys_in key_at attrs_in attr_of raw_at value_in
      origin_in number_in part_at path_in each_of
  none_at_first = none_stays only_ipv4 (behind one marker begun) no_keys_behind refl refl

  first_marker_may : MayCut only_ipv4 (steps_of one 0 begun) marker true
  unfolding attributes_text effects_in effects_of fields_in field_at keys_in key_at attrs_in attr_of raw_at value_in
      origin_in number_in part_at path_in each_of
  first_marker_may =
      may_end texts (steps_of one 0 begun) refl no_keys (is_short (length marker) 23 refl (omega arith))
      tt none_at_first

  marked_legal : IsLegal one (last marker ∷ begun)
  marked_legal = ((only_ipv4, refl, first_marker_may), begun_legal)

  -- behind it two routes of different values, and two of one
  abbrev two_values : History
  two_values = done line (announce second (with_med 2)) ∷ done line (announce first (with_med 1)) ∷ last marker ∷ begun

  values_legal : IsLegal one two_values
  values_legal = ((read.old_second, inl refl), ((read.old_first, inl refl), marked_legal))

  value_may : MayCut only_ipv4 (steps_of one 0 two_values) (here (with_med 1) (first ∷ [])) false
  unfolding attributes_text effects_in effects_of fields_in field_at keys_in key_at attrs_in attr_of raw_at value_in
      origin_in number_in part_at path_in each_of
  value_may =
      may_send texts (steps_of one 0 two_values) (with_med 1) first false (med_sendable 1 (omega arith)) first_carried
      (is_short (length (here (with_med 1) (first ∷ []))) 54 refl (omega arith)) refl refl tt
      (key_stays only_ipv4 (behind one (here (with_med 1) (first ∷ [])) two_values) second refl)

  abbrev one_value : History
  one_value = done line (announce second bare) ∷ done line (announce first bare) ∷ last marker ∷ begun

  value_legal : IsLegal one one_value
  value_legal = ((read.second_bare, inl refl), ((read.first_bare, inl refl), marked_legal))

  alone_may : MayCut only_ipv4 (steps_of one 0 one_value) (here bare (first ∷ [])) false
  unfolding attributes_text effects_in effects_of fields_in field_at keys_in key_at attrs_in attr_of raw_at value_in
      origin_in number_in part_at path_in each_of
  alone_may =
      may_send texts (steps_of one 0 one_value) bare first false bare_sendable first_carried
      (is_short (length (here bare (first ∷ []))) 47 refl (omega arith)) refl refl tt
      (key_stays only_ipv4 (behind one (here bare (first ∷ [])) one_value) second refl)

  -- a static route and the marker
  static_begun : IsLegal with_static begun
  static_begun = (refl, (refl, (refl, tt)))

  static_may : MayCut only_ipv4 (steps_of with_static 0 begun) (here own (second ∷ [])) false
  unfolding attributes_text effects_in effects_of fields_in field_at keys_in key_at attrs_in attr_of raw_at value_in
      origin_in number_in part_at path_in each_of
  static_may =
      may_send texts (steps_of with_static 0 begun) own second false own_sendable second_carried
      (is_short (length (here own (second ∷ []))) 47 refl (omega arith)) refl refl tt
      (marker_stays only_ipv4 (behind with_static (here own (second ∷ [])) begun) refl)

  abbrev static_sent : History
  static_sent = more (here own (second ∷ [])) ∷ begun

  static_keys : NoKeyLeft only_ipv4 (steps_of with_static 0 static_sent)
  unfolding attributes_text effects_in effects_of fields_in field_at keys_in key_at attrs_in attr_of raw_at value_in
      origin_in number_in part_at path_in each_of
  static_keys = none_left texts.grammar only_ipv4 (steps_of with_static 0 static_sent)
      (steps_of with_static 0 begun) refl
      (steps_legal with_static 0 begun static_begun) refl refl

  static_keys_behind : NoKeyLeft only_ipv4 (behind with_static marker static_sent)
  unfolding attributes_text effects_in effects_of fields_in field_at keys_in key_at attrs_in attr_of raw_at value_in
      origin_in number_in part_at path_in each_of
  static_keys_behind = none_left texts.grammar only_ipv4 (behind with_static marker static_sent)
      (steps_of with_static 0 begun) refl
      (steps_legal with_static 0 begun static_begun) refl refl

  static_none : NothingLeft only_ipv4 (behind with_static marker static_sent)
  unfolding attributes_text effects_in effects_of fields_in field_at keys_in key_at attrs_in attr_of raw_at value_in
      origin_in number_in part_at path_in each_of
  static_none = none_stays only_ipv4 (behind with_static marker static_sent) static_keys_behind refl refl

  static_marker_may : MayCut only_ipv4 (steps_of with_static 0 static_sent) marker true
  unfolding attributes_text effects_in effects_of fields_in field_at keys_in key_at attrs_in attr_of raw_at value_in
      origin_in number_in part_at path_in each_of
  static_marker_may =
      may_end texts (steps_of with_static 0 static_sent) refl static_keys
      (is_short (length marker) 23 refl (omega arith))
      (record { full = λ kind. absurd kind; together = λ other. tt }) static_none

  static_legal : IsLegal with_static (last marker ∷ static_sent)
  static_legal = ((only_ipv4, refl, static_marker_may), ((only_ipv4, refl, static_may), static_begun))

  are_legal : AreLegal line
  unfolding attributes_text effects_in effects_of fields_in field_at keys_in key_at attrs_in attr_of raw_at value_in
      origin_in number_in part_at path_in each_of
  are_legal = record {
    one_route = route_legal;
    later_value = ((read.new_second, inl refl), ((only_ipv4, refl, value_may), values_legal));
    withdrawn = (
      (read.first_gone, inl refl),
      (
        (read.first_bare, inl refl),
        (
          (read.first_gone, inl refl),
          sent_one_legal,
        ),
      ),
    );
    new_session = (refl, (tt, sent_one_legal));
    second_route = ((read.second_bare, inl refl), sent_one_legal);
    read_again = (inl refl, sent_one_legal);
    without_static = (inl refl, static_legal);
    first_alone = ((only_ipv4, refl, alone_may), value_legal);
  }

pub two_batches_are_legal : Texts → TwoBatches
two_batches_are_legal texts line read =
    ((only_ipv4, refl, refl, at_rest texts line read), both_legal texts line read)

pub refusals_are_of_legal : Texts → RefusalsAreOfLegal
refusals_are_of_legal texts line read = are_legal texts line read
