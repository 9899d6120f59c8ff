-- The run at a slot of 3. Assumes nothing.
use mathlib.Core.Path.{◌≡◌, refl}
use Rattle.laws.specs.Choice as laws-choice
use Rattle.laws.specs.Ranges as laws-ranges
use Rattle.fx.specs.Fx as fx-fx
use Rattle.fx.specs.Cordic as fx-cordic
use Rattle.sync_corr.specs.Correlate as sync-corr
use Rattle.sync_lock.specs.Period as sync-lock-period
use Rattle.sync_lock.specs.Rule as sync-lock-rule
use Rattle.sync_heads.specs.Words as sync-heads-words
use Rattle.sync_heads.specs.Frames as sync-heads-frames
use Rattle.sync_heads.specs.Heads as sync-heads-heads
use Rattle.sync_step.specs.Events as sync-step-events
use Rattle.sync_step.specs.Step as sync-step-step
use Rattle.sync.specs.Sync as sync
use Rattle.angles.specs.Angles as angles
use Rattle.carrier.specs.Carrier as carrier
use Rattle.phase.specs.Phase as phase
use Rattle.sums.specs.Sums as sums
use Rattle.eq_fir.specs.Fir as eq-fir
use Rattle.eq_train.specs.Train as eq-train
use Rattle.eq.specs.Eq as eq
use Rattle.demap.specs.Demap as demap
use Rattle.frame_map.specs.Map as frame-map-map
use Rattle.frame_map.specs.Reference as frame-map-reference
use Rattle.frame_line.specs.Line as frame-line
use Rattle.frame.specs.Align as frame-align
use Rattle.frame.specs.Stretch as frame-stretch
use Rattle.receiver_slot.specs.Slot as receiver-slot
use Rattle.receiver.specs.Started as receiver-started
use Rattle.receiver.specs.Heads as receiver-heads
use Rattle.receiver.specs.Symbol as receiver-symbol
use Rattle.receiver.specs.Answers as receiver-answers
use Rattle.wire.specs.Wire as wire-wire
use Rattle.digest.specs.Digest as digest
use Rattle.receiver_runs.specs.Play as play
use Rattle.receiver_runs.specs.Traces.{markers_table, markers_kit, markers_begun, markers_calls, markers_told}

pub markers_right : play.play markers_kit markers_begun markers_calls ≡ markers_told
unfolding markers_table markers_kit markers_begun markers_calls markers_told laws-choice.when◌then◌else◌ laws-ranges.min_z laws-ranges.least_of laws-ranges.firsts fx-fx.round_shift fx-fx.div_round fx-fx.mag_approx fx-fx.sat16_of fx-fx.sat127_of fx-fx.signed_angle fx-fx.round_index fx-fx.cos_sin_at fx-cordic.cordic_angles fx-cordic.right_half fx-cordic.cordic_start fx-cordic.cordic_step fx-cordic.cordic_steps fx-cordic.cordic_of sync-corr.at sync-corr.corr_re sync-corr.corr_im sync-corr.corr sync-corr.both_of sync-corr.size_of sync-lock-period.leak_of sync-lock-period.no_tally sync-lock-period.added_of sync-lock-period.counted_of sync-lock-period.counts_of sync-lock-rule.sought_of sync-lock-rule.search_of sync-lock-rule.held_of sync-lock-rule.rule_of sync-lock-rule.lock_after sync-lock-rule.locked_at sync-heads-words.side_of sync-heads-words.margin_of sync-heads-words.negated sync-heads-words.said_of sync-heads-frames.marks_of sync-heads-frames.swayed_of sync-heads-frames.next_slot sync-heads-frames.unknown_slot sync-heads-frames.frame_due sync-heads-frames.gap_of sync-heads-frames.frame_of sync-heads-frames.framed_of sync-heads-frames.tick_of sync-heads-frames.due_of sync-heads-frames.elsewhere_of sync-heads-frames.fsync_course sync-heads-heads.head_of sync-heads-heads.is_fsync sync-heads-heads.ssync_of sync-heads-heads.fsync_of sync-heads-heads.ssync_taken sync-heads-heads.fsync_taken sync-heads-heads.known_of sync-heads-heads.both_heads sync-heads-heads.first_of sync-heads-heads.read_of sync-step-events.is_nothing sync-step-events.event_of sync-step-events.no_events sync-step-events.heads_of sync-step-events.then_of sync-step-events.no_corr sync-step-step.started_of sync-step-step.place_of sync-step-step.reading_of sync-step-step.taken_of sync-step-step.after_of sync-step-step.lost_of sync-step-step.parity_of sync-step-step.is_locked sync-step-step.offset_of sync-step-step.odd_of sync-step-step.locked_offset sync-step-step.stats_of sync-step-step.lost_at_end sync-step-step.loses_of sync-step-step.with_lock sync-step-step.kept_of sync-step-step.ended_of sync-step-step.late_of sync-step-step.early_of sync-step-step.step_of sync.window_after sync.no_window sync.started_sync sync.stored_of sync.kept_window sync.symbol_of angles.angle_of angles.turned_by angles.turn_from angles.turned_back carrier.started_nco carrier.rotated_of carrier.advanced_nco carrier.tuned carrier.ssync_heard carrier.since_head carrier.trail_heard carrier.word_heard carrier.heard_of phase.gain_of phase.begun_of phase.counted_in phase.pushed_in phase.stored_in phase.per_symbol phase.whole_of phase.due_in phase.phase_at phase.gain_at phase.scaled_of phase.symbol_at phase.corrected_of sums.empty_sums eq-fir.line_after eq-fir.no_line eq-fir.identity_taps eq-fir.term_added eq-fir.filtered eq-fir.output_of eq-train.conj_product eq-train.line_product eq-train.right_product eq-train.row_products eq-train.upper_products eq-train.right_products eq-train.added eq-train.trained_sums eq.started_eq eq.pushed_eq eq.output_at eq.with_sums eq.loaded_eq eq.trains_eq eq.trained_eq demap.squared_distance demap.metric_of demap.label_metric demap.gap_of demap.soft_of demap.soft_at demap.soft_bits frame-map-map.runs frame-map-map.fields frame-map-map.none_seen frame-map-map.also_seen frame-map-map.indexed frame-map-map.part_in frame-map-map.part_of frame-map-reference.scaled_of frame-map-reference.reference_of frame-line.blank frame-line.no_metas frame-line.meta_of frame-line.placed_at frame-line.joined frame-line.moved frame-line.gap_at frame-align.started_back frame-align.restarted_back frame-align.joined_to frame-align.equalised_by frame-align.trained_part frame-align.trained_at frame-align.taken_by frame-align.pushed_back frame-stretch.after_all receiver-slot.corrected_all receiver-slot.aligned_by receiver-slot.aligned_all receiver-slot.due_symbols receiver-slot.points_for receiver-slot.soft_of receiver-slot.soft_all receiver-slot.written_on receiver-slot.no_run receiver-slot.run_of receiver-slot.waiting_before receiver-slot.runs_of receiver-started.started receiver-started.no_points receiver-started.new_kept receiver-started.kept_of receiver-heads.or_due receiver-heads.event_heard receiver-heads.listened receiver-heads.is_lost receiver-heads.loses_in receiver-symbol.next_of receiver-symbol.rotated receiver-symbol.synced receiver-symbol.window receiver-symbol.sync_left receiver-symbol.heads receiver-symbol.slot receiver-symbol.aligned receiver-symbol.back23 receiver-symbol.enough receiver-symbol.left receiver-symbol.lost receiver-symbol.receiver_after receiver-symbol.acc_after receiver-symbol.store_after receiver-symbol.soft_after receiver-symbol.lent_after receiver-symbol.runs receiver-answers.no_runs receiver-answers.loaded_points receiver-answers.with_points receiver-answers.with_eq wire-wire.bits digest.mixed_of play.unpacked play.eights play.repeated play.signs play.begun play.head play.period play.one play.two play.three play.run play.both play.mixed play.integers play.truth play.word_number play.slot_numbers play.head_numbers play.period_numbers play.event_numbers play.events_numbers play.place_numbers play.symbol_numbers play.corrected_numbers play.aligned_numbers play.run_numbers play.runs_numbers play.input_of play.digested play.shown_soft play.after_symbol play.told_by play.with_receiver play.opened play.restarted play.sums_told play.play
markers_right = refl
