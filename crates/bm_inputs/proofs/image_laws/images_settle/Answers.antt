use Rattle.bm_inputs.proofs.ImageCourses.{loaded-settles}
use Rattle.bm_inputs.proofs.image_laws.images_settle.Goals as goal

pub returns : goal.returns
returns c = loaded-settles c.texts_have_one_answer.ensures
