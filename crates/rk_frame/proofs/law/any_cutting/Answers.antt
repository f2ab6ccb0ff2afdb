use Rattle.rk_frame.proofs.Readings.{has_one_reading, has_a_reading, hands_out_in_order, has_handed_out_all, answers_the_next, keeps_its_fault}
use Rattle.rk_frame.proofs.law.any_cutting.Goals as goal

pub returns : goal.returns
returns c = record { one_reading = has_one_reading; a_reading = has_a_reading; in_order = hands_out_in_order; all = has_handed_out_all; answers = answers_the_next; fault_stays = keeps_its_fault }
