use Rattle.bm_inputs.proofs.ImageCourses.{loaded-determined}
use Rattle.bm_inputs.proofs.image_laws.images_have_one_step.Goals as goal

pub returns : goal.returns
returns c = loaded-determined c.texts_have_one_answer.ensures
