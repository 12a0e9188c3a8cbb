-- The types of runs, passed on from one place. A cap's `Field` is here `FieldOf`, and a step's `Name` is `Named`.
pub use Rattle.run_model.specs.declared.name.Name.{Name}
pub use Rattle.run_model.specs.declared.cap.Cap.{Cap}
pub use Rattle.run_model.specs.declared.cap.Cap.TheVariants.{Object, Promise, Field as FieldOf, Nothing}
pub use Rattle.run_model.specs.declared.message.Message.{Message}
pub use Rattle.run_model.specs.declared.message.Message.TheVariants.{Boot, Call, Return, Late, Failed, Taken, Elsewhere, Resolve, Broken, Plain}
pub use Rattle.run_model.specs.declared.step.Step.{Step}
pub use Rattle.run_model.specs.declared.step.Step.TheVariants.{Host, Vow, Fulfil, Break, Make, Name as Named, Deliver, Answer, AnswerBy, Fault, Send, Receive}
