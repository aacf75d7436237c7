-- The definitions computed.
use Rattle.std.proofs.Common.{refl, arith}
use Rattle.std.specs.Fmt.{digits}
use Rattle.std.proofs.lemmas.Bool.Decides.{nat_tests}
use Rattle.script_model.specs.Run.{ran}
use Rattle.script.specs.Script.{shop_report}
use Rattle.worked.proofs.worked_floors.Goals as goal

pub returns : goal.returns
unfolding digits ran shop_report
returns c =
    record {
      sixteen_stations = refl;
      no_station = refl;
      seventeen_stations = refl;
      line_promised = refl;
      no_node_for_a_key = refl;
      no_node_for_an_element = refl;
      waist_39 = refl;
      waist_161 = refl;
      waist_40 = refl;
      waist_160 = refl;
      letters_first = λ u waist leg. refl;
      by_waist = λ u v a b c d. grind (arith, nat_tests);
      by_letter = λ p q a b c d. grind (arith, nat_tests);
      five_touches = refl;
      eleven_touches = refl;
    }
