mod LabelMapsLemmas
mod PrintLemmas
mod RunLemmas
mod LivingLemmas
mod ToldLemmas
mod SteppingLemmas
mod FaultLemmas
