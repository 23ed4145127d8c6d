use Rattle.bm_inputs.proofs.ImageCourses.{loaded-bounds}
use Rattle.bm_inputs.proofs.image_laws.loaded_images_are_images.Goals as goal

pub returns : goal.returns
returns c name contents rest m h = (loaded-bounds name).gives contents rest m h
