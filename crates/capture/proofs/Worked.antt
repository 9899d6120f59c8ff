-- The captures of specs/Worked.antt end as said. By computation; assumes nothing.
use mathlib.Core.List.{map}
use mathlib.Core.Path.{◌≡◌, refl}
use Rattle.laws.specs.Choice as choice
use Rattle.laws.specs.Ranges.{firsts}
use Rattle.sync_corr.specs.Correlate as correlate
use Rattle.wire.specs.Wire.{byte_of, signed}
use Rattle.capture.specs.Bytes.{number_at, short_at, signed_byte, byte_at, signed_bytes}
use Rattle.capture.specs.Contents.{length_of, entry_fits, contents_fit}
use Rattle.capture.specs.Bodies.{word_from, f_word, s_word, words_fit, bits_of, scale_of, points_fit, points_refusal, bodies_refusal, header_refusal, words_of, loaded_of, padded, accepted_heading, header_of}
use Rattle.capture.specs.Capture.{acting_of, ends_of, loaded_capture, capture_of}
use Rattle.capture.specs.Worked.{Example, outcome_of, four, contents, words, faulty, zeros, points, file, worked}

pub worked_right : map (λ (e : Example). e.given) worked ≡ map (λ (e : Example). e.said) worked
unfolding worked outcome_of four contents words faulty zeros points file acting_of ends_of loaded_capture capture_of word_from f_word s_word words_fit bits_of scale_of points_fit points_refusal bodies_refusal header_refusal words_of loaded_of padded accepted_heading header_of length_of entry_fits contents_fit number_at short_at signed_byte byte_at signed_bytes byte_of signed firsts choice.when◌then◌else◌ correlate.at correlate.ones_to correlate.ones_of
worked_right = refl
