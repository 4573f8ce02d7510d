mod AddedLaws
mod BufferLaws
mod FindLaws
mod IndexLaws
mod LaidLaws
mod LastLaws
mod PayloadLaws
mod StepLaws
