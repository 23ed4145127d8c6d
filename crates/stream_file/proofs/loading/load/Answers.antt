use Rattle.stream_file.proofs.OneImage.{only, only_text, only_image}
use Rattle.stream_file.proofs.loading.load.Goals as goal

pub returns : goal.returns
returns c = record {
  found = c.load_text.ensures.found;
  only = only c.args.bytes.now c.load_text.result c.load_text.ensures.found c.load_text.ensures.fault;
  fault = c.load_text.ensures.fault;
  only_text = only_text c.args.bytes.now c.load_text.result c.load_text.ensures.found c.load_text.ensures.fault;
  only_image = only_image c.args.bytes.now c.load_text.result c.load_text.ensures.found c.load_text.ensures.fault;
}
