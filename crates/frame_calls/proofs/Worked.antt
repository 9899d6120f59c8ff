-- The worked example holds. By computation; assumes nothing.
use mathlib.Core.Path.{refl}
use Rattle.laws.specs.Choice as choice
use Rattle.laws.specs.Ranges.{firsts}
use Rattle.fx.specs.Fx.{round_shift, sat16_of}
use Rattle.sync_corr.specs.Correlate as words
use Rattle.sums.specs.Sums.{empty_sums, upper_at}
use Rattle.eq_fir.specs.Fir.{line_after, no_line, identity_taps, term_added, filtered, output_of}
use Rattle.eq_train.specs.Train.{conj_product, line_product, right_product, row_products, upper_products, right_products, added, trained_sums}
use Rattle.eq_train.specs.Ranges.{diagonal_in_range, product_in_range, entry_in_range, row_in_range, upper_in_range, right_in_range, sums_in_range}
use Rattle.eq.specs.Eq.{started_eq, new_eq, pushed_eq, output_at, with_sums, closed_eq, trains_eq, trained_eq}
use Rattle.eq.specs.Ranges.{eq_in_range}
use Rattle.eq.specs.Answers.{range_refusal, open_answer, close_answer}
use Rattle.frame_map.specs.Map.{fields, runs, none_seen, also_seen, indexed, part_in, part_of}
use Rattle.frame_map.specs.Reference.{scaled_of, reference_of}
use Rattle.frame_line.specs.Line.{blank, no_metas, meta_of, placed_at, joined, moved, gap_at}
use Rattle.frame_line.specs.Ranges.{meta_in_range, place_in_range, metas_in_range, last_in_range}
use Rattle.frame.specs.Align.{started_back, new_back, restarted_back, joined_to, equalised_by, trained_part, trained_at, taken_by, pushed_back, is_sync}
use Rattle.frame.specs.Ranges.{back_in_range}
use Rattle.frame.specs.Answers.{trains_back, full_back, push_refusal, push_answer}
use Rattle.frame_calls.specs.Calls.{with_eq, after_call, after_calls}
use Rattle.frame_calls.specs.Slots.{push_all}
use Rattle.frame_calls.specs.Worked.{Worked, given_after, end_of}

pub worked : Worked
unfolding given_after end_of firsts round_shift sat16_of words.ones_to words.ones_of words.at empty_sums upper_at line_after no_line identity_taps term_added filtered output_of conj_product line_product right_product row_products upper_products right_products added trained_sums diagonal_in_range product_in_range entry_in_range row_in_range upper_in_range right_in_range sums_in_range started_eq new_eq pushed_eq output_at with_sums closed_eq trains_eq trained_eq eq_in_range range_refusal open_answer close_answer fields runs none_seen also_seen indexed part_in part_of scaled_of reference_of blank no_metas meta_of placed_at joined moved gap_at meta_in_range place_in_range metas_in_range last_in_range started_back new_back restarted_back joined_to equalised_by trained_part trained_at taken_by pushed_back is_sync back_in_range trains_back full_back push_refusal push_answer with_eq after_call after_calls push_all choice.when◌then◌else◌
worked = record { fifth = refl; sixth = refl; twelfth = refl; ten = refl; eleven = refl; all = refl; gap = refl; anew = refl }
