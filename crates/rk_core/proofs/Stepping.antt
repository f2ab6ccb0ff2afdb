-- One step, and what holds of every world.
pub mod SessionsAlone
pub mod StepByParts
pub mod AskByParts
pub mod UndrawnIsNothing
pub mod UnspentIsBuilding
pub mod StepsKeepSound
