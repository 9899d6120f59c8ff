-- Every starred example of document 01 holds of the definitions that the contracts cite. By computation; assumes nothing.
use mathlib.Core.List.{map}
use mathlib.Core.Path.{◌≡◌, refl}
use Rattle.laws.specs.Choice as choice
use Rattle.laws.specs.Ranges.{min_z, least_of}
use Rattle.fx.specs.Fx.{round_shift, div_round, mag_approx, sat127_of}
use Rattle.fx.specs.Cordic.{cordic_angles, right_half, cordic_start, cordic_step, cordic_steps, cordic_of}
use Rattle.phase.specs.Phase.{gain_of}
use Rattle.demap.specs.Demap.{squared_distance, metric_of, label_metric, least_metric, gap_of, soft_of, soft_at}
use Rattle.frame_map.specs.Map.{fields, runs, none_seen, also_seen, indexed, part_in, part_of}
use Rattle.examples.specs.Worked.{Example, worked}

pub worked_right : map (λ (e : Example). e.given) worked ≡ map (λ (e : Example). e.said) worked
unfolding worked round_shift div_round mag_approx cordic_angles right_half cordic_start cordic_step cordic_steps cordic_of gain_of squared_distance metric_of label_metric least_metric gap_of soft_of soft_at least_of min_z sat127_of fields runs none_seen also_seen indexed part_in part_of choice.when◌then◌else◌
worked_right = refl
